-- The comparison of two packs, sector by sector.
use Rattle.std.proofs.Common.{◌≡◌, ℕ, ◌<◌, ◌≤◌, Bool, true, false, ◌&&◌, eqb, List, [], length, is_some, IfOk, Some, None, Ok, Decides, Option, Result, unwrap_or, sym, refl, ap, ◌∙◌, ⊎_elim, rules}
use mathlib.Core.Path.{subst⁻¹}
use Rattle.std.specs.List.{slice_get}
use Rattle.std.specs.Option.{option_map, ok_or}
use Rattle.std.proofs.lemmas.Slice.Eq.{compares_Decides}
use Rattle.std.proofs.lemmas.Bool.{eq-eqb, le-ltb, cases_lt, cases_Bool, false≢true}
use Rattle.std.proofs.lemmas.Bool.Decides.{Decides-and, Decides-like, Decides-below_and, not_from_Decides}
use Rattle.media.specs.Kinds.{kind_number, blocks_of}
use Rattle.media.specs.Shelf.{Packs, Sector, Lawful, has_block, kind_reply, fetch_buffer}
use Rattle.media.specs.Same.{SamePacks, words_at, words_agree, blocks_agree, compared, same_reply}
use Rattle.media.specs.declared.kinds.Kind.{Kind}
use Rattle.media.specs.declared.kinds.Kind.TheVariants.{Rl01, Rl02}
use Rattle.media.specs.declared.shelf.ShelfRefusal.{ShelfRefusal}
use Rattle.media.specs.declared.shelf.ShelfRefusal.TheVariants.{NoPack}

pub agree_decides : (xs ys : List ℕ) → Decides (words_agree xs ys) (xs ≡ ys)
agree_decides xs ys = compares_Decides words_agree (search rules) xs ys

some_words : (buffer : List ℕ) (sector : Option Sector) → is_some sector ≡ true → unwrap_or (option_map (λ s. s.words) sector) buffer ≡ unwrap_or (option_map (λ s. s.words) sector) []
some_words buffer (Some s) there = refl
some_words buffer None there = absurd (false≢true there)

-- a fetch of a sector that is there brings its words
pub brings : (shelf : Packs) → Lawful shelf → (pack block : ℕ) (buffer : List ℕ) → length buffer ≡ 128 → has_block shelf.kinds pack block ≡ true → fetch_buffer shelf pack block buffer ≡ words_at shelf pack block
brings shelf lawful pack block buffer long there =
    rw (eq-eqb (length buffer) 128 long) (some_words buffer (shelf.sector pack block) (lawful.placed pack block ∙ there))

kind_decides : (j k : Kind) → Decides (eqb (kind_number j) (kind_number k)) (j ≡ k)
kind_decides Rl01 Rl01 = (λ _. refl, λ _. refl)
kind_decides Rl01 Rl02 = (λ e. absurd (false≢true e), λ e. cc)
kind_decides Rl02 Rl01 = (λ e. absurd (false≢true e), λ e. cc)
kind_decides Rl02 Rl02 = (λ _. refl, λ _. refl)

-- a block that its pack's kind does not have has no words
no_words : (shelf : Packs) → Lawful shelf → (pack block : ℕ) (k : Kind) → slice_get shelf.kinds pack ≡ Some k → blocks_of k ≤ block → words_at shelf pack block ≡ []
no_words shelf lawful pack block k is past =
    let absent : is_some (shelf.sector pack block) ≡ false = lawful.placed pack block ∙ rw is (le-ltb block (blocks_of k) past) in
    none_words (shelf.sector pack block) absent
  where
    none_words : (sector : Option Sector) → is_some sector ≡ false → unwrap_or (option_map (λ s. s.words) sector) [] ≡ []
    none_words None e = refl
    none_words (Some s) e = absurd (false≢true (sym e))

-- Two packs.
module _ (left : Packs) (left_lawful : Lawful left) (p : ℕ) (right : Packs) (right_lawful : Lawful right) (q : ℕ) where
  agree_below : (n : ℕ) → Decides (blocks_agree left p right q n) ((block : ℕ) → block < n → words_at left p block ≡ words_at right q block)
  agree_below n =
      Decides-below_and (λ b. words_agree (words_at left p b) (words_at right q b)) (λ b. words_at left p b ≡ words_at right q b) (blocks_agree left p right q)
      (λ b. agree_decides (words_at left p b) (words_at right q b)) refl (λ _. refl) n

  by_kinds : (o o' : Option Kind) → slice_get left.kinds p ≡ o → slice_get right.kinds q ≡ o' → IfOk (compared o o' (blocks_agree left p right q)) (λ answer. Decides answer (SamePacks left p right q))
  by_kinds None o' e f = tt
  by_kinds (Some j) None e f = tt
  by_kinds (Some j) (Some k) e f =
      Decides-like (eqb (kind_number j) (kind_number k) && blocks_agree left p right q (blocks_of j))
      (λ h. (
        e ∙ ap Some h.0 ∙ sym f,
        λ b. ⊎_elim (λ below. h.1 b below)
            (λ past. no_words left left_lawful p b j e past ∙ sym (no_words right right_lawful q b k f (rw (sym h.0) past)))
            (cases_lt b (blocks_of j)),
      ))
      (λ h. (let same : Some j ≡ Some k = sym e ∙ h.0 ∙ f in cc, λ b below. h.1 b))
      (Decides-and (eqb (kind_number j) (kind_number k)) (blocks_agree left p right q (blocks_of j)) (kind_decides j k) (agree_below (blocks_of j)))

  -- the reply is whether they are the same
  same_exact : (r : Result Bool ShelfRefusal) → r ≡ same_reply left p right q → IfOk r (λ answer. Decides answer (SamePacks left p right q))
  same_exact r is =
      subst⁻¹ (λ (s : Result Bool ShelfRefusal). IfOk s (λ answer. Decides answer (SamePacks left p right q))) is
      (by_kinds (slice_get left.kinds p) (slice_get right.kinds q) refl refl)

  -- Packs whose kinds were asked for, and found to be equal.
  module _ (k j : Kind) (left_is : Ok k ≡ kind_reply left p) (right_is : Ok j ≡ kind_reply right q) (equal : j ≡ k) where
    nth_is : (o : Option Kind) (i : Kind) → Ok i ≡ ok_or o NoPack → o ≡ Some i
    nth_is (Some h) i e = cc
    nth_is None i e = absurd (cc)

    right_kind : slice_get right.kinds q ≡ Some k
    right_kind = nth_is (slice_get right.kinds q) j right_is ∙ ap Some equal

    -- the answer is whether their blocks agree
    pub answered : (answer : Bool) → blocks_agree left p right q (blocks_of k) ≡ answer → (Ok answer ≡ same_reply left p right q) × Decides answer (SamePacks left p right q)
    answered answer is =
        let reply : Ok answer ≡ same_reply left p right q = rw (nth_is (slice_get left.kinds p) k left_is, right_kind, eq-eqb (kind_number k) (kind_number k) refl) (ap Ok (sym is)) in
        (reply, same_exact (Ok answer) reply)

    -- they do not where the words of a block differ
    pub differ : (block : ℕ) → block < blocks_of k → words_agree (words_at left p block) (words_at right q block) ≡ false → blocks_agree left p right q (blocks_of k) ≡ false
    differ block below differs =
        ⊎_elim
        (λ agree.
        absurd (not_from_Decides (words_agree (words_at left p block) (words_at right q block)) (agree_decides (words_at left p block) (words_at right q block)) differs
        ((agree_below (blocks_of k)).0 agree block below)))
        (λ e. e) (cases_Bool (blocks_agree left p right q (blocks_of k)))
