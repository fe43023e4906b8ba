-- A card is filled word by word.
use Rattle.std.proofs.Common.{◌≡◌, ℕ, zero, suc, ◌+◌, ◌-◌, ◌<◌, ◌≤◌, true, false, List, [], ◌∷◌, ◌++◌, length, take, drop, set, replicate, Ok, Err, Result, sym, refl, ap, ◌∙◌, subst, append_assoc, append-nil, add-one, arith, length-set, take-append-drop, take_all, drop-cons, take-suc-set, drop-set-lt}
use Rattle.std.proofs.lemmas.Bool.{true≢false, false≢true}
use Rattle.script.specs.Arguments.{argument, closed, and_then}
use Rattle.script.specs.Setup.{filled}
use Rattle.script.specs.Words.{none_left, others_of}
use Rattle.script.specs.declared.faults.Fault.{Fault}
use Rattle.script.specs.declared.numbers.Base.TheVariants.{Octal}

-- words that were read go before the words to come
abbrev pub after : List ℕ → Result (List ℕ) Fault → Result (List ℕ) Fault
after t r = and_then r (λ xs. Ok (t ++ xs))

after_one : (r : Result (List ℕ) Fault) (t : List ℕ) (x : ℕ) → after t (and_then r (λ xs. Ok (x ∷ xs))) ≡ after (t ++ (x ∷ [])) r
after_one (Ok xs) t x = ap Ok (sym (append_assoc t (x ∷ []) xs))
after_one (Err e) t x = refl

pub one_filled : (n : ℕ) (ws : List (List ℕ)) (t : List ℕ) (x : ℕ) → argument Octal 65535 ws ≡ Ok x → after t (filled (suc n) ws) ≡ after (t ++ (x ∷ [])) (filled n (others_of ws))
one_filled n [] t x e = let z : ◌≡◌ {A = ℕ} 0 1 = cc in absurd (omega arith)
one_filled n (w ∷ ws) t x e = rw e (after_one (filled n ws) t x)

pub one_faulty : (n : ℕ) (ws : List (List ℕ)) (t : List ℕ) (f : Fault) → none_left ws ≡ false → argument Octal 65535 ws ≡ Err f → after t (filled (suc n) ws) ≡ Err f
one_faulty n [] t f some e = absurd (true≢false some)
one_faulty n (w ∷ ws) t f some e = rw e refl

pub rest_zero : (n : ℕ) (ws : List (List ℕ)) (t : List ℕ) → none_left ws ≡ true → after t (filled n ws) ≡ Ok (t ++ replicate n 0)
rest_zero zero [] t none = refl
rest_zero (suc n) [] t none = refl
rest_zero n (w ∷ ws) t none = absurd (false≢true none)

pub all_filled : (ws : List (List ℕ)) (t : List ℕ) → after t (filled 0 ws) ≡ closed t ws
all_filled [] t = ap Ok (append-nil t)
all_filled (w ∷ ws) t = refl

tail_zero : (cs : List ℕ) (i n : ℕ) → i < length cs → drop i cs ≡ replicate (suc n) 0 → drop (i + 1) cs ≡ replicate n 0
tail_zero cs i n h e = let f = drop-cons cs i 0 h in rw (add-one i) (cc)

pub again : (cs : List ℕ) (i : ℕ) (ws : List (List ℕ)) (x : ℕ) (goal : Result (List ℕ) Fault) → i < 128 → length cs ≡ 128 → argument Octal 65535 ws ≡ Ok x → after (take i cs) (filled (128 - i) ws) ≡ goal → drop i cs ≡ replicate (128 - i) 0 → (after (take (i + 1) (set cs i x)) (filled (128 - (i + 1)) (others_of ws)) ≡ goal) × (drop (i + 1) (set cs i x) ≡ replicate (128 - (i + 1)) 0) × (length (set cs i x) ≡ 128)
again cs i ws x goal h len e inv zeros =
    let n = 128 - (i + 1) in
    let down : 128 - i ≡ suc n = omega arith in
    let inside : i < length cs = omega arith in
    let below : i < i + 1 = omega arith in
    let one = one_filled n ws (take i cs) x e in
    let front : take (i + 1) (set cs i x) ≡ take i cs ++ (x ∷ []) = rw (add-one i) (take-suc-set cs i x inside) in
    let inv' = subst (λ m. after (take i cs) (filled m ws) ≡ goal) down inv in
    let zeros' = subst (λ m. drop i cs ≡ replicate m 0) down zeros in (
      ap (λ t. after t (filled n (others_of ws))) front ∙ sym one ∙ inv',
      drop-set-lt (i + 1) cs i x below ∙ tail_zero cs i n inside zeros',
      length-set cs i x ∙ len,
    )

pub stopped : (cs : List ℕ) (i : ℕ) (ws : List (List ℕ)) (goal : Result (List ℕ) Fault) → none_left ws ≡ true → after (take i cs) (filled (128 - i) ws) ≡ goal → drop i cs ≡ replicate (128 - i) 0 → Ok cs ≡ goal
stopped cs i ws goal none inv zeros =
    ap Ok (sym (take-append-drop i cs) ∙ ap (λ t. take i cs ++ t) zeros) ∙ sym (rest_zero (128 - i) ws (take i cs) none) ∙ inv

pub broken : (cs : List ℕ) (i : ℕ) (ws : List (List ℕ)) (f : Fault) (goal : Result (List ℕ) Fault) → i < 128 → none_left ws ≡ false → argument Octal 65535 ws ≡ Err f → after (take i cs) (filled (128 - i) ws) ≡ goal → Err f ≡ goal
broken cs i ws f goal h some e inv =
    let down : 128 - i ≡ suc (128 - (i + 1)) = omega arith in
    let inv' = subst (λ m. after (take i cs) (filled m ws) ≡ goal) down inv in
    sym (one_faulty (128 - (i + 1)) ws (take i cs) f some e) ∙ inv'

pub full : (cs : List ℕ) (i : ℕ) (ws : List (List ℕ)) (goal : Result (List ℕ) Fault) → i ≡ 128 → length cs ≡ 128 → after (take i cs) (filled (128 - i) ws) ≡ goal → closed cs ws ≡ goal
full cs i ws goal done len inv =
    let none : 128 - i ≡ 0 = omega arith in
    let long : length cs ≤ i = omega arith in
    let inv' = subst (λ m. after (take i cs) (filled m ws) ≡ goal) none inv in
    let inv'' = subst (λ t. after t (filled 0 ws) ≡ goal) (take_all i cs long) inv' in
    sym (all_filled ws cs) ∙ inv''
