-- One sector more of a copy of a pack.
use Rattle.std.proofs.Common.{◌≡◌, ℕ, ◌+◌, ◌<◌, Bool, true, false, cond, ◌&&◌, eqb, ltb, List, [], ◌∷◌, ◌++◌, is_some, Some, None, Ok, Err, Option, Result, unwrap_or, sym, refl, ap, inl, inr, ◌∙◌, ⊎_elim, append-nil, add-one, arith}
use mathlib.Core.Path.{subst⁻¹, fun_ext}
use Rattle.std.specs.List.{slice_get}
use Rattle.std.specs.Option.{option_map}
use Rattle.std.proofs.lemmas.Bool.{and_parts, eqb-true, lt-ltb, cases_Bool, cases_eq, false≢true}
use Rattle.std.proofs.lemmas.Bool.Decides.{nat_tests}
use Rattle.media.specs.Kinds.{kind_number, blocks_of}
use Rattle.media.specs.Marks.{clean, is_clean}
use Rattle.media.specs.Same.{words_at}
use Rattle.media.specs.Shelf.{Packs, Sector, Lawful, store_reply, after_store, left_by, stored, takes_in, rewritten, kept}
use Rattle.media.specs.declared.kinds.Kind.{Kind}
use Rattle.media.specs.declared.marks.Mark.{Mark}
use Rattle.media.specs.declared.shelf.ShelfRefusal.{ShelfRefusal}
use Rattle.backup.specs.Copy.{copied, sector_reply, copy_reply, after_sector, after_copy}
use Rattle.backup.specs.Whole.{one_kind, kinds_reply, mark_at, clean_at, copied_onto, copied_front, marked_blocks, Stopped}
use Rattle.backup.specs.declared.copy.CopyError.{CopyError}
use Rattle.backup.specs.declared.copy.CopyError.TheVariants.{Declined, NoMemory}
use Rattle.backup.specs.declared.copy.LeftOut.{LeftOut}
use Rattle.backup.specs.declared.copy.Outcome.{Outcome}
use Rattle.backup.specs.declared.copy.Outcome.TheVariants.{Copied, Skipped}

-- what the answer to the copy of a sector says of the sector and of the store
record StoredFrom (o : Option Sector) (target : Packs) (q n : ℕ) (r : Result (Unit {0}) ShelfRefusal) : Type 0 where
  sector : Sector
  there : o ≡ Some sector
  unmarked : is_clean sector.mark ≡ true
  reply : store_reply target q n sector.words ≡ r

record LeftFrom (o : Option Sector) (m : Mark) : Type 0 where
  sector : Sector
  there : o ≡ Some sector
  marked : is_clean sector.mark ≡ false
  is : m ≡ sector.mark

was_stored : (r : Result (Unit {0}) ShelfRefusal) → copied r ≡ Ok Copied → r ≡ Ok tt
was_stored (Ok _) e = refl
was_stored (Err x) e = cc

was_declined : (r : Result (Unit {0}) ShelfRefusal) (x : ShelfRefusal) → copied r ≡ Err x → r ≡ Err x
was_declined (Ok _) x e = cc
was_declined (Err y) x e = cc

never_skipped : (r : Result (Unit {0}) ShelfRefusal) (m : Mark) → copied r ≡ Ok (Skipped m) → ⊥
never_skipped (Ok _) m e = cc
never_skipped (Err x) m e = cc

was_copied : (o : Option Sector) (target : Packs) (q n : ℕ) → sector_reply o target q n ≡ Ok Copied → StoredFrom o target q n (Ok tt)
was_copied None target q n e = absurd (cc)
was_copied (Some s) target q n e =
    ⊎_elim
    (λ unmarked. record { sector = s; there = refl; unmarked = unmarked; reply = was_stored (store_reply target q n s.words) (rw unmarked at e) })
    (λ marked. let f = rw marked at e in absurd (cc))
    (cases_Bool (is_clean s.mark))

was_skipped : (o : Option Sector) (target : Packs) (q n : ℕ) (m : Mark) → sector_reply o target q n ≡ Ok (Skipped m) → LeftFrom o m
was_skipped None target q n m e = absurd (cc)
was_skipped (Some s) target q n m e =
    ⊎_elim
    (λ unmarked. absurd (never_skipped (store_reply target q n s.words) m (rw unmarked at e)))
    (λ marked. let f = rw marked at e in record { sector = s; there = refl; marked = marked; is = (cc) })
    (cases_Bool (is_clean s.mark))

was_refused : (o : Option Sector) (target : Packs) (q n : ℕ) (x : ShelfRefusal) → is_some o ≡ true → sector_reply o target q n ≡ Err x → StoredFrom o target q n (Err x)
was_refused None target q n x there e = absurd (false≢true there)
was_refused (Some s) target q n x there e =
    ⊎_elim
    (λ unmarked. record { sector = s; there = refl; unmarked = unmarked; reply = was_declined (store_reply target q n s.words) x (rw unmarked at e) })
    (λ marked. let f = rw marked at e in absurd (cc))
    (cases_Bool (is_clean s.mark))

pub not_skipped : (o : Outcome) → ((m : Mark) → o ≡ Skipped m → ⊥) → o ≡ Copied
not_skipped Copied never = refl
not_skipped (Skipped m) never = absurd (never m refl)

-- which sectors the first n blocks and one more have
elsewhere : (pack q block n : ℕ) (r : Bool) → (eqb pack q && eqb block n) ≡ false → (eqb pack q && (ltb block n && r)) ≡ (eqb pack q && (ltb block (n + 1) && r))
elsewhere pack q block n r other = grind (arith, nat_tests)

not_before : (q n : ℕ) (r : Bool) → (eqb q q && (ltb n n && r)) ≡ false
not_before q n r = grind (arith, nat_tests)

at_last_place : (q n : ℕ) → (eqb q q && eqb n n) ≡ true
at_last_place q n = grind (arith, nat_tests)

at_last : (q n : ℕ) (r : Bool) → r ≡ true → (eqb q q && (ltb n (n + 1) && r)) ≡ true
at_last q n r e = grind (arith, nat_tests)

not_counted : (a : Bool) (block n : ℕ) (r : ℕ → Bool) → r n ≡ false → (a && (ltb block n && r block)) ≡ (a && (ltb block (n + 1) && r block))
not_counted a block n r none =
    ⊎_elim (λ e. let e' : r block ≡ false = ap r e ∙ none in grind (arith, nat_tests)) (λ apart. grind (arith, nat_tests)) (cases_eq block n)

-- a sector kept, landed on, or passed by
abbrev taking_of : Option Sector → Bool
taking_of o = unwrap_or (option_map (λ s. s.takes) o) false

landed : (buffer : List ℕ) (was takes : Bool) (o : Option Sector) → takes ≡ taking_of (option_map (rewritten buffer) (option_map (kept was) o)) → option_map (rewritten buffer) (option_map (kept was) o) ≡ option_map (copied_onto buffer takes) o
landed buffer was takes (Some s) is = ap (λ t. Some (copied_onto buffer t s)) (sym is)
landed buffer was takes None is = refl

passed : (chosen : Bool) (buffer : List ℕ) (was takes : Bool) (o : Option Sector) → option_map (kept takes) (cond chosen (option_map (copied_onto buffer was) o) (option_map (kept was) o)) ≡ cond chosen (option_map (copied_onto buffer takes) o) (option_map (kept takes) o)
passed true buffer was takes (Some s) = refl
passed true buffer was takes None = refl
passed false buffer was takes (Some s) = refl
passed false buffer was takes None = refl

-- shelves of one row of kinds with the same sectors are one
same_packs : (kinds : List Kind) (s s' : ℕ → ℕ → Option Sector) → ((pack block : ℕ) → s pack block ≡ s' pack block) → ◌≡◌ {A = Packs} (record { kinds = kinds; sector = s }) (record { kinds = kinds; sector = s' })
same_packs kinds s s' same = ap (λ (f : ℕ → ℕ → Option Sector). (record { kinds = kinds; sector = f })) (fun_ext (λ pack. fun_ext (same pack)))

-- where the packs fit each other, the source has each block of their kind
fit_kind : (o o' : Option Kind) (k : Kind) → Ok k ≡ one_kind o o' → o ≡ Some k
fit_kind None o' k e = absurd (cc)
fit_kind (Some j) None k e = absurd (cc)
fit_kind (Some j) (Some i) k e =
    ⊎_elim
    (λ same. let f = rw same at e in cc)
    (λ other. let f = rw other at e in absurd (cc))
    (cases_Bool (eqb (kind_number i) (kind_number j)))

pub present : (source : Packs) → Lawful source → (p : ℕ) (before : Packs) (q : ℕ) (k : Kind) → Ok k ≡ kinds_reply source p before q → (n : ℕ) → n < blocks_of k → is_some (source.sector p n) ≡ true
present source lawful p before q k fits n below =
    lawful.placed p n ∙ rw (fit_kind (slice_get source.kinds p) (slice_get before.kinds q) k fits) (lt-ltb n (blocks_of k) below)

-- The turn at block n of a copy.
module _ (source : Packs) (p : ℕ) (before : Packs) (q : ℕ) (target after : Packs) (n : ℕ) (front : target ≡ copied_front source p before q n (takes_in target)) (is : after ≡ after_copy source p target q n (takes_in after)) where
  -- the sector of a front, once it is chosen or not
  at : (takes : ℕ → ℕ → Bool) → ℕ → ℕ → Bool → Option Sector
  at takes pack block chosen = cond chosen (option_map (copied_onto (words_at source p block) (takes pack block)) (before.sector pack block)) (option_map (kept (takes pack block)) (before.sector pack block))

  target_at : (pack block : ℕ) → target.sector pack block ≡ at (takes_in target) pack block (eqb pack q && (ltb block n && clean_at source p block))
  unfolding at
  target_at pack block = ap (λ t. t.sector pack block) front

  -- the words that the sector of the source has
  source_words : (sector : Sector) → source.sector p n ≡ Some sector → sector.words ≡ words_at source p n
  source_words sector there = sym (ap (λ o. unwrap_or (option_map (λ x. x.words) o) []) there)

  module _ (sector : Sector) (there : source.sector p n ≡ Some sector) (unmarked : is_clean sector.mark ≡ true) where
    clean_here : clean_at source p n ≡ true
    clean_here = ap (λ o. is_clean (unwrap_or (option_map (λ x. x.mark) o) clean)) there ∙ unmarked

    after_reply : (r : Result (Unit {0}) ShelfRefusal) → store_reply target q n sector.words ≡ r → after ≡ left_by r target (stored target q n sector.words (takes_in after))
    after_reply r reply =
        is ∙ ap (λ o. after_sector o target q n (takes_in after)) there ∙ ap (λ b. cond b (after_store target q n sector.words (takes_in after)) target) unmarked
        ∙ ap (λ r. left_by r target (stored target q n sector.words (takes_in after))) reply

    -- the sectors of the target once the sector is stored
    by_place : after ≡ stored target q n sector.words (takes_in after) → (pack block : ℕ) (here : Bool) → (eqb pack q && eqb block n) ≡ here → cond here (option_map (rewritten sector.words) (target.sector pack block)) (option_map (kept (takes_in after pack block)) (target.sector pack block)) ≡ at (takes_in after) pack block (eqb pack q && (ltb block (n + 1) && clean_at source p block))
    unfolding at
    by_place now_stored pack block true here =
        let parts = and_parts (eqb pack q) (eqb block n) here in
        let was : target.sector q n ≡ option_map (kept (takes_in target q n)) (before.sector q n) = target_at q n ∙ ap (at (takes_in target) q n) (not_before q n (clean_at source p n)) in
        let takes : takes_in after q n ≡ taking_of (option_map (rewritten sector.words) (option_map (kept (takes_in target q n)) (before.sector q n))) =
        ap (λ a. taking_of (a.sector q n)) now_stored
        ∙ ap (λ b. taking_of (cond b (option_map (rewritten sector.words) (target.sector q n)) (option_map (kept (takes_in after q n)) (target.sector q n)))) (at_last_place q n)
        ∙ ap (λ o. taking_of (option_map (rewritten sector.words) o)) was in
        rw (eqb-true pack q parts.0, eqb-true block n parts.1)
        (ap (option_map (rewritten sector.words)) was ∙ landed sector.words (takes_in target q n) (takes_in after q n) (before.sector q n) takes
        ∙ ap (λ ws. option_map (copied_onto ws (takes_in after q n)) (before.sector q n)) (source_words sector there)
        ∙ sym (ap (at (takes_in after) q n) (at_last q n (clean_at source p n) clean_here)))
    by_place now_stored pack block false other =
        ap (option_map (kept (takes_in after pack block))) (target_at pack block)
        ∙ passed (eqb pack q && (ltb block n && clean_at source p block)) (words_at source p block) (takes_in target pack block) (takes_in after pack block) (before.sector pack block)
        ∙ ap (at (takes_in after) pack block) (elsewhere pack q block n (clean_at source p block) other)

  pub on_copied : copy_reply source p target q n ≡ Ok Copied → (after ≡ copied_front source p before q (n + 1) (takes_in after)) × (clean_at source p n ≡ true)
  unfolding at
  on_copied reply =
      let s = was_copied (source.sector p n) target q n reply in
      let now_stored = after_reply s.sector s.there s.unmarked (Ok tt) s.reply in
      let sectors : ℕ → ℕ → Option Sector = (stored target q n s.sector.words (takes_in after)).sector in (
        now_stored ∙ ap (λ (ks : List Kind). (record { kinds = ks; sector = sectors })) (ap (λ t. t.kinds) front)
            ∙ same_packs before.kinds sectors _ (λ pack block. by_place s.sector s.there s.unmarked now_stored pack block (eqb pack q && eqb block n) refl),
        clean_here s.sector s.there s.unmarked,
      )

  pub on_skipped : (m : Mark) → copy_reply source p target q n ≡ Ok (Skipped m) → (after ≡ target) × (clean_at source p n ≡ false) × (m ≡ mark_at source p n)
  on_skipped m reply =
      let s = was_skipped (source.sector p n) target q n m reply in (
        is ∙ ap (λ o. after_sector o target q n (takes_in after)) s.there ∙ ap (λ b. cond b (after_store target q n s.sector.words (takes_in after)) target) s.marked,
        ap (λ o. is_clean (unwrap_or (option_map (λ x. x.mark) o) clean)) s.there ∙ s.marked,
        s.is ∙ sym (ap (λ o. unwrap_or (option_map (λ x. x.mark) o) clean) s.there),
      )

  -- a target that is as it was still has the front
  pub still : after ≡ target → after ≡ copied_front source p before q n (takes_in after)
  still same = subst⁻¹ (λ a. a ≡ copied_front source p before q n (takes_in a)) same front

  pub past_skipped : after ≡ target → clean_at source p n ≡ false → after ≡ copied_front source p before q (n + 1) (takes_in after)
  unfolding at
  past_skipped same marked =
      still same ∙ same_packs before.kinds _ _ (λ pack block. ap (at (takes_in after) pack block) (not_counted (eqb pack q) block n (clean_at source p) marked))

  pub on_refused : (x : ShelfRefusal) → is_some (source.sector p n) ≡ true → copy_reply source p target q n ≡ Err x → (after ≡ target) × (clean_at source p n ≡ true) × (store_reply after q n (words_at source p n) ≡ Err x)
  on_refused x present reply =
      let s = was_refused (source.sector p n) target q n x present reply in
      let same = after_reply s.sector s.there s.unmarked (Err x) s.reply in (
        same,
        clean_here s.sector s.there s.unmarked,
        ap (λ a. store_reply a q n (words_at source p n)) same ∙ ap (store_reply target q n) (sym (source_words s.sector s.there)) ∙ s.reply,
      )

  -- A copy that stops at this block, whose packs fit each other.
  module _ (lawful : Lawful source) (k : Kind) (fits : Ok k ≡ kinds_reply source p before q) (below : n < blocks_of k) where
    pub stopped_declined : (x : ShelfRefusal) (why : CopyError) → why ≡ Declined x → Err x ≡ copy_reply source p target q n → Stopped source p before q after why
    stopped_declined x why is_why reply =
        let facts = on_refused x (present source lawful p before q k fits n below) (sym reply) in
        inr (n, record { kind = k; fits = sym fits; within = below; target = still facts.0; cause = inl (facts.1, (x, facts.2, is_why)) })

    pub stopped_unlisted : (m : Mark) (why : CopyError) → why ≡ NoMemory → copy_reply source p target q n ≡ Ok (Skipped m) → Stopped source p before q after why
    stopped_unlisted m why is_why reply =
        let facts = on_skipped m reply in
        inr (n, record { kind = k; fits = sym fits; within = below; target = still facts.0; cause = inr (facts.1, is_why) })

-- the list of what was left out, one block more
module _ (source : Packs) (p n : ℕ) (left : List LeftOut) (is : left ≡ marked_blocks source p n) where
  pub none_more : clean_at source p n ≡ true → left ≡ marked_blocks source p (n + 1)
  none_more unmarked = rw (add-one n, unmarked) (is ∙ sym (append-nil (marked_blocks source p n)))

  pub one_more : (m : Mark) → clean_at source p n ≡ false → m ≡ mark_at source p n → left ++ (record { block = n; mark = m }) ∷ [] ≡ marked_blocks source p (n + 1)
  one_more m marked same = rw (add-one n, marked, is, same)
