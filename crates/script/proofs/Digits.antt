-- A number that is above its limit stays there.
use Rattle.std.proofs.Common.{◌≡◌, ℕ, ◌+◌, ◌*◌, ◌<◌, List, [], ◌∷◌, length, get_or, drop, Some, None, Option, Ok, Err, Result, sym, refl, ap, ◌∙◌, add-one, arith, drop-cons}
use Rattle.std.specs.Option.{ok_or}
use Rattle.std.proofs.lemmas.Bool.Decides.{nat_tests}
use Rattle.script.specs.Numbers.{radix_of, digit_of, with_digit, number_after, number_of}
use Rattle.script.specs.declared.faults.Fault.{Fault}
use Rattle.script.specs.declared.faults.Fault.TheVariants.{NotANumber}
use Rattle.script.specs.declared.numbers.Base.{Base}
use Rattle.script.specs.declared.numbers.Base.TheVariants.{Octal, Decimal}

pub grows : (b : Base) (limit n d : ℕ) → limit < n → limit < n * radix_of b + d
grows Octal limit n d h = omega arith
grows Decimal limit n d h = omega arith

with_like : (o : Option ℕ) (f g : ℕ → Result ℕ Fault) → ((d : ℕ) → f d ≡ g d) → with_digit o f ≡ with_digit o g
with_like None f g e = refl
with_like (Some d) f g e = e d

pub above : (b : Base) (limit n m : ℕ) (cs : List ℕ) → limit < n → limit < m → number_after b limit n cs ≡ number_after b limit m cs
above b limit n m [] h k = grind (arith, nat_tests)
above b limit n m (c ∷ cs) h k =
    with_like (digit_of b c) _ _ (λ d. above b limit (n * radix_of b + d) (m * radix_of b + d) cs (grows b limit n d h) (grows b limit m d k))

pub started : (b : Base) (limit : ℕ) (w : List ℕ) → 0 < length w → number_of b limit w ≡ number_after b limit 0 w
started b limit [] h = absurd (omega arith)
started b limit (c ∷ cs) h = refl

one_more : (b : Base) (limit n i : ℕ) (w : List ℕ) (o : Option ℕ) → i < length w → digit_of b (get_or w i 0) ≡ o → number_after b limit n (drop i w) ≡ with_digit o (λ d. number_after b limit (n * radix_of b + d) (drop (i + 1) w))
one_more b limit n i w o h e = rw (drop-cons w i 0, e, add-one i) refl

with_ok : (o : Option ℕ) (d : ℕ) (f : ℕ → Result ℕ Fault) → ok_or o NotANumber ≡ Ok d → with_digit o f ≡ f d
with_ok None d f e = absurd (cc)
with_ok (Some c) d f e = ap f (cc)

with_err : (o : Option ℕ) (x : Fault) (f : ℕ → Result ℕ Fault) → ok_or o NotANumber ≡ Err x → with_digit o f ≡ Err x
with_err None x f e = e
with_err (Some c) x f e = absurd (cc)

-- a digit more
pub digit_more : (b : Base) (limit n i : ℕ) (w : List ℕ) (o : Option ℕ) (d : ℕ) → i < length w → o ≡ digit_of b (get_or w i 0) → ok_or o NotANumber ≡ Ok d → number_after b limit n (drop i w) ≡ number_after b limit (n * radix_of b + d) (drop (i + 1) w)
digit_more b limit n i w o d h e k = one_more b limit n i w o h (sym e) ∙ with_ok o d _ k

-- a byte that is no digit
pub no_digit : (b : Base) (limit n i : ℕ) (w : List ℕ) (o : Option ℕ) (x : Fault) → i < length w → o ≡ digit_of b (get_or w i 0) → ok_or o NotANumber ≡ Err x → number_after b limit n (drop i w) ≡ Err x
no_digit b limit n i w o x h e k = one_more b limit n i w o h (sym e) ∙ with_err o x _ k
