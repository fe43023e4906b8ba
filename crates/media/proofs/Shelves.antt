-- When what stands on a shelf afterwards is what a store leaves.
use Rattle.std.proofs.Common.{◌≡◌, ℕ, zero, suc, ◌<◌, Bool, true, false, cond, ◌&&◌, eqb, List, [], ◌∷◌, length, Some, None, Ok, Err, Option, unwrap_or, refl, ap, ◌∙◌, arith, suc-le-suc, zero-le}
use mathlib.Core.Path.{fun_ext}
use Rattle.std.proofs.lemmas.Bool.{false≢true}
use Rattle.std.proofs.lemmas.Grind.{common_steps}
use Rattle.std.specs.Option.{option_map}
use Rattle.media.specs.Shelf.{Sector, has_block, shelf_of, store_reply, after_store, left_by, stored, rewritten, kept, takes_in}
use Rattle.media.specs.declared.kinds.Kind.{Kind}
use Rattle.media.specs.declared.shelf.ShelfRefusal.TheVariants.{NotTaking}

-- one place, which is there or not and is the stored one or not
at_place : (there here : Bool) (before after : Sector) (buffer : List ℕ) → (here ≡ true → after ≡ rewritten buffer before) → (there ≡ true → here ≡ false → after ≡ kept after.takes before) → cond there (Some after) None ≡ cond here (option_map (rewritten buffer) (cond there (Some before) None)) (option_map (kept (unwrap_or (option_map (λ s. s.takes) (cond there (Some after) None)) false)) (cond there (Some before) None))
at_place true true before after buffer stores keeps = ap Some (stores refl)
at_place true false before after buffer stores keeps = ap Some (keeps refl refl)
at_place false true before after buffer stores keeps = refl
at_place false false before after buffer stores keeps = refl

-- A shelf of the same kinds, whose stored sector is rewritten and whose other sectors keep words and mark, is what the store leaves.
pub stored_shelf : (kinds : List Kind) (before after : ℕ → ℕ → Sector) (pack block : ℕ) (buffer : List ℕ) → ((p b : ℕ) → (eqb p pack && eqb b block) ≡ true → after p b ≡ rewritten buffer (before p b)) → ((p b : ℕ) → has_block kinds p b ≡ true → (eqb p pack && eqb b block) ≡ false → after p b ≡ kept (after p b).takes (before p b)) → shelf_of kinds after ≡ stored (shelf_of kinds before) pack block buffer (takes_in (shelf_of kinds after))
stored_shelf kinds before after pack block buffer stores keeps =
    ap (λ (s : ℕ → ℕ → Option Sector). (record { kinds = kinds; sector = s })) (fun_ext (λ p. fun_ext (λ b. at_place (has_block kinds p b) (eqb p pack && eqb b block) (before p b) (after p b) buffer (stores p b) (keeps p b))))

-- What a store answers and leaves where the sector is there.
module _ (kinds : List Kind) (content : ℕ → ℕ → Sector) (pack block : ℕ) (buffer : List ℕ) (long : length buffer ≡ 128) (there : has_block kinds pack block ≡ true) where
  pub store_there : store_reply (shelf_of kinds content) pack block buffer ≡ cond (content pack block).takes (Ok tt) (Err NotTaking)
  store_there = grind (arith, common_steps)

  -- a store that is accepted leaves what `stored` says
  pub after_there : (after : ℕ → ℕ → Bool) → (content pack block).takes ≡ true → after_store (shelf_of kinds content) pack block buffer after ≡ stored (shelf_of kinds content) pack block buffer after
  after_there after takes = ap (λ r. left_by r (shelf_of kinds content) (stored (shelf_of kinds content) pack block buffer after)) (store_there ∙ ap (λ b. cond b (Ok tt) (Err NotTaking)) takes)

-- a block that is there belongs to a pack that is there
pub in_row : (kinds : List Kind) (pack block : ℕ) → has_block kinds pack block ≡ true → pack < length kinds
in_row [] pack block there = absurd (false≢true there)
in_row (k ∷ kinds) zero block there = suc-le-suc zero-le
in_row (k ∷ kinds) (suc pack) block there = suc-le-suc (in_row kinds pack block there)
