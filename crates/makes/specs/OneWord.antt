-- What a memory of one word holds.
use Rattle.std.specs.Prelude.{ℕ, Some, None, ◌==◌, if◌then◌else◌}
use Rattle.media.specs.Memory.{Words, at_places}

-- There is one word, at address 0.
abbrev pub one_word_contents : ℕ → Words
one_word_contents w = at_places (λ a. if a == 0 then Some w else None)
