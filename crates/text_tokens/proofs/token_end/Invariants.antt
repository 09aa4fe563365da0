use mathlib.Core.Path.{◌≡◌}
use Prim.Native.Nat.{◌≤◌, ◌<◌}
use lib.ListN.{length, drop, get_or}
use Rattle.text_meaning.specs.Tokens.{token_kind, behind, tokens}
use Rattle.text_tokens.proofs.Tokens.{part}
use Rattle.text_tokens.proofs.token_end.Given as goal

abbrev pub invariant-loop-e : goal.invariant-loop-e
invariant-loop-e l = (l.at < l.e) × (l.e ≤ length l.text) × (tokens (drop l.at l.text) ≡ behind (part l.at l.e l.text) (drop l.e l.text)) × (l.kind ≡ token_kind (get_or l.text l.at 0))
