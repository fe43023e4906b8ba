-- A store into the slice of a flat shelf is a store on the shelf.
use Rattle.std.proofs.Common.{◌≡◌, ℕ, zero, suc, ◌+◌, ◌-◌, ◌*◌, ◌<◌, ◌≤◌, Bool, true, false, cond, ◌&&◌, eqb, ◌⊎◌, List, [], ◌∷◌, ◌++◌, length, get_or, take, drop, Some, None, Ok, Err, Option, Result, sym, refl, ap, ◌∙◌, inl, inr, ⊎_elim, arith}
use Rattle.std.specs.List.{slice_get}
use Rattle.std.specs.Result.{result_and}
use Rattle.std.proofs.lemmas.List.{length-append, length-take, length-drop, drop_at, take_at, get_or-take, get_or-drop, get_or_append_left, get_or-append_right, same_lists}
use Rattle.std.proofs.lemmas.Bool.{ltb-true, eqb-true, eqb-false, and_parts, and_cases, cases_lt, false≢true}
use Rattle.media.specs.Kinds.{blocks_of}
use Rattle.media.specs.Marks.{clean}
use Rattle.media.specs.Shelf.{Sector, has_block, sector_check, after_store, takes_in}
use Rattle.shelves.specs.Flat.{whole_pack, flat_sector, packs_of_kind, replaced}
use Rattle.shelves.proofs.Sectors.{passed}
use Rattle.media.proofs.Shelves.{after_there, stored_shelf}
use Rattle.media.specs.declared.kinds.Kind.{Kind}
use Rattle.media.specs.declared.shelf.ShelfRefusal.{ShelfRefusal}

in_pack : (k : Kind) (whole : Bool) (pack block : ℕ) → has_block (cond whole (k ∷ []) []) pack block ≡ true → (whole ≡ true) × (pack ≡ 0) × (block < blocks_of k)
in_pack k true zero block there = (refl, refl, ltb-true _ _ there)
in_pack k true (suc p) block there = absurd (false≢true there)
in_pack k false pack block there = absurd (false≢true there)

-- a sector that is there lies in pack 0 and in the slice
in_slice : (slice : List ℕ) (kind : Option Kind) (pack block : ℕ) → has_block (whole_pack slice kind) pack block ≡ true → (pack ≡ 0) × (block * 128 + 128 ≤ length slice)
in_slice slice None pack block there = absurd (false≢true there)
in_slice slice (Some k) pack block there =
    let h = in_pack k (eqb (length slice) (blocks_of k * 128)) pack block there in
    (h.1, omega (arith, h.2, eqb-true (length slice) (blocks_of k * 128) h.0))

-- A slice of which 128 words from `start` on are replaced.
module _ (slice buffer : List ℕ) (start : ℕ) (long : length buffer ≡ 128) (within : start + 128 ≤ length slice) where
  new_length : length (take start slice ++ (buffer ++ drop (start + 128) slice)) ≡ length slice
  new_length = simp (length-append, length-take, length-drop) (omega arith)

  front : length (take start slice) ≡ start
  front = simp length-take (omega arith)

  new_part : take 128 (drop start (take start slice ++ (buffer ++ drop (start + 128) slice))) ≡ buffer
  new_part =
      rw (drop_at (take start slice) (buffer ++ drop (start + 128) slice) start front) (take_at buffer (drop (start + 128) slice) 128 long)

  outside : (j d : ℕ) → (j < start) ⊎ (start + 128 ≤ j) → get_or (take start slice ++ (buffer ++ drop (start + 128) slice)) j d ≡ get_or slice j d
  outside j d (inl h) = get_or_append_left (take start slice) _ d j (omega (arith, front)) ∙ get_or-take start slice j d h
  outside j d (inr h) =
      get_or-append_right (take start slice) _ start j d front (omega arith) ∙ get_or-append_right buffer _ 128 (j - start) d long (omega arith)
      ∙ get_or-drop (start + 128) slice (j - start - 128) d ∙ ap (λ i. get_or slice i d) (omega arith)

  other_part : (n : ℕ) → (n + 128 ≤ start) ⊎ (start + 128 ≤ n) → take 128 (drop n (take start slice ++ (buffer ++ drop (start + 128) slice))) ≡ take 128 (drop n slice)
  other_part n apart =
      let new = take start slice ++ (buffer ++ drop (start + 128) slice) in
      same_lists _ _ (simp (length-take, length-drop, length-append) (omega arith))
      (λ k d h.
      let below : k < 128 = omega (arith, length-take 128 (drop n new)) in
      let at : (xs : List ℕ) → get_or (take 128 (drop n xs)) k d ≡ get_or xs (n + k) d = λ xs. get_or-take 128 (drop n xs) k d below ∙ get_or-drop n xs k d in
      at new ∙ outside (n + k) d (⊎_elim (λ a. inl (omega arith)) (λ a. inr (omega arith)) apart) ∙ sym (at slice))

-- a start that is answered is that of a sector that nothing is refused of
pub started : (checked : Result (Unit {0}) ShelfRefusal) (start n : ℕ) → Ok start ≡ result_and checked (Ok n) → (Ok tt ≡ checked) × (start ≡ n)
started (Ok tt) start n e = (refl, cc)
started (Err why) start n e = cc

-- A store that is not refused.
module _ (kind : Option Kind) (slice : List ℕ) (pack block : ℕ) (buffer : List ℕ) (checked : Ok tt ≡ sector_check (slice_get (whole_pack slice kind) pack) block buffer) where
  there : has_block (whole_pack slice kind) pack block ≡ true
  there = (passed (whole_pack slice kind) pack block buffer checked).1

  long : length buffer ≡ 128
  long = (passed (whole_pack slice kind) pack block buffer checked).0

  within : block * 128 + 128 ≤ length slice
  within = (in_slice slice kind pack block there).1

  -- the slice after it
  new : List ℕ
  new = replaced (Ok tt) slice block buffer

  same_kinds : (k : Option Kind) → whole_pack new k ≡ whole_pack slice k
  unfolding new
  same_kinds None = refl
  same_kinds (Some k) = ap (λ n. cond (eqb n (blocks_of k * 128)) (k ∷ []) []) (new_length slice buffer (block * 128) long within)

  apart : (p b : ℕ) → has_block (whole_pack slice kind) p b ≡ true → (eqb p pack && eqb b block) ≡ false → (b * 128 + 128 ≤ block * 128) ⊎ (block * 128 + 128 ≤ b * 128)
  apart p b here other =
      let zero_pack : pack ≡ 0 = (in_slice slice kind pack block there).0 in
      let zero_p : p ≡ 0 = (in_slice slice kind p b here).0 in
      ⊎_elim (λ e. absurd (eqb-false p pack e (zero_p ∙ sym zero_pack)))
      (λ e. let ne = eqb-false b block e in ⊎_elim (λ (l : b < block). inl (omega arith)) (λ (l : block ≤ b). inr (omega arith)) (cases_lt b block))
      (and_cases (eqb p pack) (eqb b block) other)

  pub stored_flat : (slice' : List ℕ) → slice' ≡ replaced (Ok tt) slice block buffer → packs_of_kind kind slice' ≡ after_store (packs_of_kind kind slice) pack block buffer (takes_in (packs_of_kind kind slice'))
  unfolding new
  stored_flat slice' is =
      let sector : List ℕ → Sector = λ ws. record { words = ws; mark = clean; takes = true } in
      rw (is, same_kinds kind)
      (stored_shelf (whole_pack slice kind) (λ _ b. flat_sector slice b) (λ _ b. flat_sector new b) pack block buffer
      (λ p b same. ap sector (rw (eqb-true b block (and_parts (eqb p pack) (eqb b block) same).1) (new_part slice buffer (block * 128) long within)))
      (λ p b here other. ap sector (other_part slice buffer (block * 128) long within (b * 128) (apart p b here other)))
      ∙ sym (after_there (whole_pack slice kind) (λ _ b. flat_sector slice b) pack block buffer long there _ refl))
