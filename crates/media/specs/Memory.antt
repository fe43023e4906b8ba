-- What a bus memory holds, and what a read and a write of one word answer and change.
use Rattle.std.specs.Prelude.{◌≡◌, ℕ, ◌%◌, ◌<◌, ◌&&◌, is_ok, Some, None, Ok, Err, Option, Result, ◌==◌, nat_lt, if◌then◌else◌}
use Rattle.std.specs.Option.{ok_or, option_map}
use Rattle.media.specs.declared.memory.MemoryRefusal.{MemoryRefusal}
use Rattle.media.specs.declared.memory.MemoryRefusal.TheVariants.{OddAddress, NoWord}

-- The meaning of a memory: the word at each address, or none where it is absent.
abbrev pub Words : Type 0
Words = ℕ → Option ℕ

-- No word lies at this address or above.
abbrev pub word_limit : ℕ
word_limit = 0o760000

-- An odd address is refused with 3, one that has no word with 4.
abbrev pub memory_refusal_number : MemoryRefusal → ℕ
memory_refusal_number OddAddress = 3
memory_refusal_number NoWord = 4

-- Every address that has a word is even and below the limit.
abbrev pub OnlyEvenBelowLimit : Words → Type 0
OnlyEvenBelowLimit m = (a w : ℕ) → m a ≡ Some w → (a % 2 ≡ 0) × (a < word_limit)

-- A meaning kept to the places of a memory: nothing is there but at even addresses below the limit.
abbrev pub at_places : Words → Words
at_places m a = if a % 2 == 0 && nat_lt a word_limit then m a else None

-- An address at which no memory has a word is refused: an odd one first, then one at or above the limit.
abbrev pub address_reply : ℕ → Result (Unit {0}) MemoryRefusal
address_reply a = if a % 2 == 1 then Err OddAddress else if nat_lt a word_limit then Ok tt else Err NoWord

-- A read answers the word at its address; an odd address is refused first, then one that has no word.
abbrev pub read_reply : Words → ℕ → Result ℕ MemoryRefusal
read_reply m a = if a % 2 == 1 then Err OddAddress else ok_or (m a) NoWord

-- A write is accepted where a read is, and refused alike.
abbrev pub write_reply : Words → ℕ → Result (Unit {0}) MemoryRefusal
write_reply m a = if a % 2 == 1 then Err OddAddress else ok_or (option_map (λ _. tt) (m a)) NoWord

-- A write that is accepted changes the word at its address alone, and a refused one nothing.
abbrev pub after_write : Words → ℕ → ℕ → Words
after_write m a w b = if is_ok (write_reply m a) && b == a then Some w else m b
