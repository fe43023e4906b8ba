-- The first card of a deck that passes a test, and what a change of a card does to it.
use Rattle.std.proofs.Common.{◌≡◌, ℕ, zero, suc, ◌+◌, ◌<◌, Bool, true, false, cond, not, nat_lt, List, [], ◌∷◌, length, get_or, set, find, position, Some, None, Option, sym, refl, ap, ◌∙◌, arith}
use Rattle.std.specs.List.{position_or_len}
use Rattle.std.proofs.lemmas.Bool.{ltb-false}
use Rattle.std.proofs.lemmas.List.Folds.{find_at}
use Rattle.std.proofs.lemmas.List.Quantifiers.{position-Some}
use Rattle.std.proofs.lemmas.Option.{slice_get-get_or, slice_get_past}
use Rattle.shelves.specs.Cards.{change_first}
use Rattle.shelves.specs.declared.cards.Card.{Card}

-- a place that is known only where it lies in the deck
known : (within : Bool) (n i : ℕ) → cond within (Some n) None ≡ Some i → (within ≡ true) × (n ≡ i)
known true n i e = (refl, cc)
known false n i e = cc

unknown : (within : Bool) (n : ℕ) → ◌≡◌ {A = Option ℕ} (cond within (Some n) None) None → within ≡ false
unknown true n e = cc
unknown false n e = refl

module _ (test : Card → Bool) where
  -- what the place of the first card that passes says of the deck
  pub record FirstAt (xs : List Card) (i : ℕ) (d : Card) : Type 0 where
    pub is : i ≡ position_or_len test xs
    pub within : i < length xs
    pub passes : test (get_or xs i d) ≡ true
    pub card : find test xs ≡ Some (get_or xs i d)

  pub first_at : (xs : List Card) (i : ℕ) (d : Card) → position test xs ≡ Some i → FirstAt xs i d
  first_at xs i d found =
      let is : position_or_len test xs ≡ i = (known (nat_lt (position_or_len test xs) (length xs)) (position_or_len test xs) i found).1 in
      let at = position-Some test xs i d found in
      record { is = sym is; within = at.0; passes = at.1; card = find_at test xs ∙ rw is (slice_get-get_or xs i d at.0) }

  -- a change of the first card that passes is a write at its place
  changed_here : (change : Card → Card) (x : Card) (xs : List Card) (d : Card) (passes : Bool) (n : ℕ) → n < length (x ∷ xs) → n ≡ cond (not passes) (1 + position_or_len test xs) 0 → (position_or_len test xs < length xs → change_first test change xs ≡ set xs (position_or_len test xs) (change (get_or xs (position_or_len test xs) d))) → cond passes (change x ∷ xs) (x ∷ change_first test change xs) ≡ set (x ∷ xs) n (change (get_or (x ∷ xs) n d))
  changed_here change x xs d true n below is rest = rw is
  changed_here change x xs d false n below is rest = let next : n ≡ suc (position_or_len test xs) = omega arith in rw next (ap (λ ys. x ∷ ys) (rest (omega arith)))

  changed : (change : Card → Card) (xs : List Card) (d : Card) → position_or_len test xs < length xs → change_first test change xs ≡ set xs (position_or_len test xs) (change (get_or xs (position_or_len test xs) d))
  changed change [] d below = absurd (omega arith)
  changed change (x ∷ xs) d below = changed_here change x xs d (test x) (position_or_len test (x ∷ xs)) below refl (changed change xs d)

  pub changed_at : (change : Card → Card) (xs : List Card) (i : ℕ) (d : Card) → FirstAt xs i d → change_first test change xs ≡ set xs i (change (get_or xs i d))
  changed_at change xs i d first = rw first.is (changed change xs d (omega arith))

  -- without a place there is no such card
  pub nowhere : (xs : List Card) → position test xs ≡ None → find test xs ≡ None
  nowhere xs none =
      find_at test xs
      ∙ slice_get_past xs (position_or_len test xs) (ltb-false (position_or_len test xs) (length xs) (unknown (nat_lt (position_or_len test xs) (length xs)) (position_or_len test xs) none))

  -- a card that passes, put where none passes before
  pub find_new : (xs : List Card) (i : ℕ) (y : Card) → find test xs ≡ None → i < length xs → test y ≡ true → find test (set xs i y) ≡ Some y
  find_new [] i y none within passes = absurd (omega arith)
  find_new (x ∷ xs) zero y none within passes = rw passes
  find_new (x ∷ xs) (suc i) y none within passes = later (test x) none (λ e. find_new xs i y e (omega arith) passes)
    where
      later : (here : Bool) → cond here (Some x) (find test xs) ≡ None → (find test xs ≡ None → find test (set xs i y) ≡ Some y) → cond here (Some x) (find test (set xs i y)) ≡ Some y
      later true e rest = cc
      later false e rest = rest e
