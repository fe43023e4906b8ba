-- The kinds of the packs of a card shelf.
use Rattle.std.proofs.Common.{◌≡◌, ℕ, zero, suc, ◌+◌, ◌<◌, List, [], ◌∷◌, length, take, is_some, Some, None, Option, slice_index_or, refl, ap, arith}
use Rattle.std.specs.List.{slice_get, take_while, prefix_len}
use Rattle.media.specs.declared.kinds.Kind.{Kind}
use Rattle.shelves.specs.Cards.{leading_kinds}

-- Before the first place that has no kind, the kinds of the packs are those at their places.
pub kind_at_place : (n : ℕ) (kinds : List (Option Kind)) (i : ℕ) → i < length (take_while is_some kinds) → i < n → slice_index_or kinds i None ≡ slice_get (leading_kinds (take n kinds)) i
kind_at_place zero kinds i below few = absurd (omega arith)
kind_at_place (suc n) [] i below few = absurd (omega arith)
kind_at_place (suc n) (None ∷ kinds) i below few = absurd (omega arith)
kind_at_place (suc n) (Some k ∷ kinds) zero below few = refl
kind_at_place (suc n) (Some k ∷ kinds) (suc i) below few =
    let one : 1 + prefix_len is_some kinds ≡ suc (prefix_len is_some kinds) = omega arith in
    let more : length (take_while is_some (Some k ∷ kinds)) ≡ suc (length (take_while is_some kinds)) = ap (λ (m : ℕ). length (take m (Some k ∷ kinds))) one in
    kind_at_place n kinds i (omega (arith, more)) (omega arith)
