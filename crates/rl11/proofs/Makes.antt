-- The numbers of kinds that a controller is made with.
use Rattle.std.proofs.Common.{◌≡◌, ℕ, true, false, Bool, ltb, List, [], ◌∷◌, map, Err, Ok, Option, cond, refl, sym, ap, ◌∙◌}
use Rattle.std.proofs.lemmas.List.Folds.{list_any_at}
use Rattle.std.specs.List.{IsAmong, AllZip, list_any}
use Rattle.media.specs.Kinds.{kind_of}
use Rattle.media.specs.declared.kinds.Kind.{Kind}
use Rattle.rl11.specs.Machine.{drive_kind_reply, kinds_reply}
use Rattle.exchanges.specs.declared.refusals.MakeRefusal.{MakeRefusal}
use Rattle.exchanges.specs.declared.refusals.MakeRefusal.TheVariants.{NoSuchKind}

-- A number that is refused is above 2.
above : (b : Bool) (k : Option Kind) (e : MakeRefusal) → Err e ≡ cond b (Err NoSuchKind) (Ok k) → b ≡ true
above true k e refused = refl
above false k e refused = cc

-- A number that is refused refuses all.
pub kinds_refused : (ks : List ℕ) (n : ℕ) (e : MakeRefusal) → IsAmong ks n → Err e ≡ drive_kind_reply n → kinds_reply ks ≡ Err e
kinds_refused ks n NoSuchKind at refused =
    let test = above (ltb 2 n) (kind_of n) NoSuchKind refused in
    rw (list_any_at (ltb 2) ks at.0 n at.1.0 (ap (ltb 2) (sym at.1.1) ∙ test))

-- A number that is taken is not above 2, and says its kind.
taken : (b : Bool) (k l : Option Kind) → Ok l ≡ cond b (Err NoSuchKind) (Ok k) → (b ≡ false) × (l ≡ k)
taken true k l e = cc
taken false k l e = (refl, cc)

-- Numbers that are all taken say all kinds.
pub kinds_taken : {R : ℕ → Option Kind → Type 0} → ((n : ℕ) (k : Option Kind) → R n k → Ok k ≡ drive_kind_reply n)
    → (ns : List ℕ) (ks : List (Option Kind)) → AllZip R ns ks → (list_any (ltb 2) ns ≡ false) × (ks ≡ map kind_of ns)
kinds_taken told [] [] all = (refl, refl)
kinds_taken told [] (k ∷ ks) all = absurd all
kinds_taken told (n ∷ ns) [] all = absurd all
kinds_taken told (n ∷ ns) (k ∷ ks) all =
    let here = taken (ltb 2 n) (kind_of n) k (told n k all.0) in
    let rest = kinds_taken told ns ks all.1 in
    (rw (here.0, rest.0), rw (here.1, rest.1))
