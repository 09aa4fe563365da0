-- The sizes of the table of values that slots cannot have. No promise to a caller rests on these.
use Rattle.std.specs.Prelude.{ℕ, ◌+◌, ◌*◌}
use Rattle.search_slots.specs.Slots.{set_words}

-- the entries: a slot and a value each, then how many there are; and the words of the set that each rests on
abbrev pub most_values : ℕ
most_values = 240

abbrev pub memory_count_at : ℕ
memory_count_at = most_values * 2

abbrev pub memory_numbers : ℕ
memory_numbers = memory_count_at + 1

abbrev pub memory_words : ℕ
memory_words = most_values * set_words
