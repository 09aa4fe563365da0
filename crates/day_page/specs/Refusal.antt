-- What a call for a set and its page is sent back for. `bytes`, `ends` and `out` are those of a set; `page` is what was lent for the page.
use Rattle.std.specs.Prelude.{cond, List, ℕ, eqb, ltb, ℤ, length}
use Rattle.judge_ends.specs.Sets.{refusal_of_set}
use Rattle.day_page.specs.Page.{page_room}

-- what the set is sent back for, and then 13 for fewer bytes than a page may have, whatever the set needs; 0 where all is taken
unfoldable pub refusal_of_day : List ℕ → List ℕ → List ℤ → List ℕ → ℕ
refusal_of_day bytes ends out page =
    cond (eqb (refusal_of_set bytes ends out) 0)
    (cond (ltb (length page) page_room) 13 0)
    (refusal_of_set bytes ends out)
