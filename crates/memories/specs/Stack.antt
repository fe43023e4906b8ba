-- The memory that two memories make, one above the other.
use Rattle.std.specs.Prelude.{ℕ, ◌-◌, ◌%◌, ◌&&◌, is_ok, nat_le, nat_lt, if◌then◌else◌}
use Rattle.media.specs.Memory.{Words, address_reply, after_write, at_places}
use Rattle.memories.specs.declared.stack.Stack.{Stack}

-- An odd border is lowered by one.
abbrev pub even_border : ℕ → ℕ
even_border n = n - n % 2

-- Addresses below the border go to the lower memory, the rest, less the border, to the upper one; nothing is there at the limit or above.
abbrev pub stack_contents : ℕ → Words → Words → Words
stack_contents n l u = at_places (λ a. if nat_lt a n then l a else u (a - n))

-- What this stack means, by the meanings of its two memories.
abbrev pub stack_meaning : {L U : Type 0} → (L → Words) → (U → Words) → Stack L U → Words
stack_meaning lower_meaning upper_meaning s = stack_contents (even_border s.border) (lower_meaning s.lower) (upper_meaning s.upper)

-- A write at an address that can have a word goes to the lower memory below the border.
abbrev pub lower_after_write : ℕ → Words → ℕ → ℕ → Words
lower_after_write n l a w = if is_ok (address_reply a) && nat_lt a n then after_write l a w else l

-- From the border on it goes to the upper memory, at the address less the border.
abbrev pub upper_after_write : ℕ → Words → ℕ → ℕ → Words
upper_after_write n u a w = if is_ok (address_reply a) && nat_le n a then after_write u (a - n) w else u
