-- Kinds are read one after the other.
use Rattle.std.proofs.Common.{◌≡◌, ℕ, suc, ◌+◌, ◌-◌, ◌<◌, ◌≤◌, List, [], ◌∷◌, ◌++◌, length, take, set, Ok, Err, Result, refl, ap, append_assoc, append-nil, add-one, arith, take_all, take-suc-set}
use Rattle.script.specs.Arguments.{argument}
use Rattle.script.specs.Setup.{with_kinds}
use Rattle.script.specs.Words.{others_of}
use Rattle.script.specs.declared.faults.Fault.{Fault}
use Rattle.script.specs.declared.numbers.Base.TheVariants.{Decimal}
use Rattle.script.specs.declared.setup.Setup.{Setup}

one_kind : (n : ℕ) (f : List ℕ → List (List ℕ) → Result Setup Fault) (ws : List (List ℕ)) (t : List ℕ) (k : ℕ) → argument Decimal 255 ws ≡ Ok k → with_kinds (suc n) (λ ks. f (t ++ ks)) ws ≡ with_kinds n (λ ks. f ((t ++ (k ∷ [])) ++ ks)) (others_of ws)
one_kind n f ws t k e = rw e (simp append_assoc)

-- one kind more is read
pub next_kind : (n i : ℕ) (cs : List ℕ) (ws : List (List ℕ)) (k : ℕ) (f : List ℕ → List (List ℕ) → Result Setup Fault) → i < n → length cs ≡ n → argument Decimal 255 ws ≡ Ok k → with_kinds (n - i) (λ ks. f (take i cs ++ ks)) ws ≡ with_kinds (n - (i + 1)) (λ ks. f (take (i + 1) (set cs i k) ++ ks)) (others_of ws)
next_kind n i cs ws k f h len e =
    let down : n - i ≡ suc (n - (i + 1)) = omega arith in
    let inside : i < length cs = omega arith in
    let front : take (i + 1) (set cs i k) ≡ take i cs ++ (k ∷ []) = rw (add-one i) (take-suc-set cs i k inside) in
    rw (down, front) (one_kind (n - (i + 1)) f ws (take i cs) k e)

-- one is no kind
pub no_kind : (n i : ℕ) (ws : List (List ℕ)) (x : Fault) (f : List ℕ → List (List ℕ) → Result Setup Fault) → i < n → argument Decimal 255 ws ≡ Err x → with_kinds (n - i) f ws ≡ Err x
no_kind n i ws x f h e =
    let down : n - i ≡ suc (n - (i + 1)) = omega arith in
    rw (down, e) refl

-- all kinds are read
pub all_kinds : (n i : ℕ) (cs : List ℕ) (ws : List (List ℕ)) (f : List ℕ → List (List ℕ) → Result Setup Fault) → n ≤ i → length cs ≡ n → with_kinds (n - i) (λ ks. f (take i cs ++ ks)) ws ≡ f cs ws
all_kinds n i cs ws f h len =
    let none : n - i ≡ 0 = omega arith in
    let long : length cs ≤ i = omega arith in
    rw (none, take_all i cs long) (ap (λ ks. f ks ws) (append-nil cs))
