-- The line feeds of a text.
use Rattle.std.proofs.Common.{◌≡◌, ℕ, ◌+◌, ◌<◌, true, false, eqb, ◌⊎◌, List, [], ◌∷◌, ◌++◌, length, get_or, drop, Ok, Err, Result, sym, refl, ap, ◌∙◌, subst, inl, inr, ⊎_elim, arith}
use Rattle.std.specs.List.{slice_split, onto_first, enumerate_from}
use Rattle.std.proofs.lemmas.Bool.{cases_Bool}
use Rattle.std.proofs.lemmas.List.{at_drop_more, at_drop_all}
use Rattle.std.proofs.lemmas.List.FromFn.{length-enumerate_from, get_or-enumerate_from}
use Rattle.script.specs.Scripts.{Plan, line_added, numbered, read_from, finished, AddedSo, ReadSo}
use Rattle.script.specs.Texts.{lines_of}
use Rattle.script.specs.Words.{lengthened}
use Rattle.script.specs.declared.faults.Fault.{Fault}
use Rattle.script.specs.declared.faults.LineFault.{LineFault}
use Rattle.script.specs.declared.scripts.ScriptError.{ScriptError}
use Rattle.script.specs.declared.scripts.ScriptError.TheVariants as script_error

-- where an item of the numbered parts stands
numbered_part : (ls : List (List ℕ)) (n at : ℕ) (l : List ℕ) → (n < length (enumerate_from 0 ls)) × ((at, l) ≡ get_or (enumerate_from 0 ls) n (at, l)) → (n < length ls) × (at ≡ n) × (l ≡ get_or ls n l)
numbered_part ls n at l h =
    let inside : n < length ls = omega (arith, length-enumerate_from 0 ls, h.0) in
    let e = h.1 ∙ get_or-enumerate_from 0 ls n (at, l) inside in
    let first : at ≡ 0 + n = ap (λ p. p.0) e in
    (inside, omega arith, ap (λ p. p.1) e)

-- the parts of a text between its line feeds
abbrev pub parts_of : List ℕ → List (List ℕ)
parts_of = slice_split (λ b. eqb b 10)

same_first : (c : ℕ) (ls : List (List ℕ)) → onto_first c ls ≡ lengthened c ls
same_first c [] = refl
same_first c (l ∷ ls) = refl

blank_after : (c : ℕ) (ls : List (List ℕ)) → (lengthened c (ls ++ ([] ∷ [])) ≡ lengthened c ls) ⊎ (lengthened c (ls ++ ([] ∷ [])) ≡ lengthened c ls ++ ([] ∷ []))
blank_after c [] = inl refl
blank_after c (l ∷ ls) = inr refl

-- a text that ends with a line feed, or is empty, has one part more than lines
lines_or_more : (cs : List ℕ) → (parts_of cs ≡ lines_of cs) ⊎ (parts_of cs ≡ lines_of cs ++ ([] ∷ []))
lines_or_more [] = inr refl
lines_or_more (c ∷ cs) =
    ⊎_elim
    (λ (e : eqb c 10 ≡ true).
    ⊎_elim
    (λ (h : parts_of cs ≡ lines_of cs). inl (rw (e, h) refl))
    (λ (h : parts_of cs ≡ lines_of cs ++ ([] ∷ [])). inr (rw (e, h) refl))
    (lines_or_more cs))
    (λ (e : eqb c 10 ≡ false).
    ⊎_elim
    (λ (h : parts_of cs ≡ lines_of cs). inl (rw (e, h) (same_first c (lines_of cs))))
    (λ (h : parts_of cs ≡ lines_of cs ++ ([] ∷ [])).
    ⊎_elim
    (λ (b : lengthened c (lines_of cs ++ ([] ∷ [])) ≡ lengthened c (lines_of cs)). inl (rw (e, h) (same_first c _ ∙ b)))
    (λ (b : lengthened c (lines_of cs ++ ([] ∷ [])) ≡ lengthened c (lines_of cs) ++ ([] ∷ [])). inr (rw (e, h) (same_first c _ ∙ b)))
    (blank_after c (lines_of cs)))
    (lines_or_more cs))
    (cases_Bool (eqb c 10))

numbered_alike : (n : ℕ) (r : Result Plan Fault) (f g : Plan → Result Plan LineFault) → ((p : Plan) → f p ≡ g p) → numbered n r f ≡ numbered n r g
numbered_alike n (Ok p) f g e = e p
numbered_alike n (Err x) f g e = refl

-- a line of no words adds nothing
blank_last : (n : ℕ) (p : Plan) (ls : List (List ℕ)) → read_from n p (ls ++ ([] ∷ [])) ≡ read_from n p ls
blank_last n p [] = refl
blank_last n p (l ∷ ls) = numbered_alike (n + 1) (line_added (n + 1) l p) _ _ (λ q. blank_last (n + 1) q ls)

-- the parts say what the lines say
pub parts_read : (n : ℕ) (p : Plan) (cs : List ℕ) → read_from n p (parts_of cs) ≡ read_from n p (lines_of cs)
parts_read n p cs =
    ⊎_elim
    (λ (h : parts_of cs ≡ lines_of cs). ap (read_from n p) h)
    (λ (h : parts_of cs ≡ lines_of cs ++ ([] ∷ [])). ap (read_from n p) h ∙ blank_last n p (lines_of cs))
    (lines_or_more cs)

one_read : (ls : List (List ℕ)) (n : ℕ) (p : Plan) (l : List ℕ) → n < length ls → l ≡ get_or ls n l → read_from n p (drop n ls) ≡ numbered (n + 1) (line_added (n + 1) l p) (λ q. read_from (n + 1) q (drop (n + 1) ls))
one_read ls n p l h e = at_drop_more (read_from n p) ls n l h ∙ ap (λ k. read_from n p (k ∷ drop (n + 1) ls)) (sym e)

numbered_then : (n : ℕ) (r : Result Plan Fault) (f : Plan → Result Plan LineFault) (p : Plan) → numbered n r Ok ≡ Ok p → numbered n r f ≡ f p
numbered_then n (Ok q) f p e = ap f (cc)
numbered_then n (Err x) f p e = absurd (cc)

numbered_fault : (n : ℕ) (r : Result Plan Fault) (f : Plan → Result Plan LineFault) (x : LineFault) → numbered n r Ok ≡ Err x → numbered n r f ≡ Err x
numbered_fault n (Ok q) f x e = absurd (cc)
numbered_fault n (Err y) f x e = e

-- an item l of the numbered parts ls of a text is the nth
abbrev IsPart : List (List ℕ) → ℕ → ℕ → List ℕ → Type 0
IsPart ls n at l = (n < length (enumerate_from 0 ls)) × ((at, l) ≡ get_or (enumerate_from 0 ls) n (at, l))

-- one line is added, and the others are to be read
pub line_read : (ls : List (List ℕ)) (n at m : ℕ) (l : List ℕ) (p q : Plan) (whole : Result Plan LineFault) → IsPart ls n at l → m ≡ n + 1 → numbered (at + 1) (line_added (at + 1) l p) Ok ≡ Ok q → read_from n p (drop n ls) ≡ whole → read_from m q (drop m ls) ≡ whole
line_read ls n at m l p q whole t e k inv =
    let here = numbered_part ls n at l t in
    let said : numbered (n + 1) (line_added (n + 1) l p) Ok ≡ Ok q = subst (λ a. numbered (a + 1) (line_added (a + 1) l p) Ok ≡ Ok q) here.1 k in
    ap (λ i. read_from i q (drop i ls)) e ∙ sym (numbered_then (n + 1) _ (λ x. read_from (n + 1) x (drop (n + 1) ls)) q said) ∙ sym (one_read ls n p l here.0 here.2) ∙ inv

-- one line is not added, and no other is read
pub line_refused : (ls : List (List ℕ)) (n at : ℕ) (l : List ℕ) (p q : Plan) (x : ScriptError) (whole : Result Plan LineFault) → IsPart ls n at l → AddedSo (numbered (at + 1) (line_added (at + 1) l p) Ok) (Err x) q → read_from n p (drop n ls) ≡ whole → ReadSo (finished whole) (Err x)
line_refused ls n at l p q script_error.NoMemory whole t k inv = tt
line_refused ls n at l p q (script_error.Line x) whole t k inv =
    let here = numbered_part ls n at l t in
    let said : numbered (n + 1) (line_added (n + 1) l p) Ok ≡ Err x = subst (λ a. numbered (a + 1) (line_added (a + 1) l p) Ok ≡ Err x) here.1 k in
    ap finished (sym inv ∙ one_read ls n p l here.0 here.2 ∙ numbered_fault (n + 1) _ (λ q. read_from (n + 1) q (drop (n + 1) ls)) x said)

-- all lines are read
pub all_read : (ls : List (List ℕ)) (n : ℕ) (p : Plan) (whole : Result Plan LineFault) → n ≡ length (enumerate_from 0 ls) → read_from n p (drop n ls) ≡ whole → whole ≡ Ok p
all_read ls n p whole e inv = sym inv ∙ at_drop_all (read_from n p) ls n (omega (arith, length-enumerate_from 0 ls))
