-- The runs of bytes of a line.
use Rattle.std.proofs.Common.{◌≡◌, ℕ, Option, suc, ◌<◌, ◌≤◌, Bool, true, false, not, position, List, [], ◌∷◌, length, take, drop, Some, None, is_some, sym, refl, ap, ◌∙◌, ⊎_elim, arith, drop-cons}
use Rattle.std.specs.List.{position_or_len}
use Rattle.std.proofs.lemmas.List.{drop_all}
use Rattle.std.proofs.lemmas.Bool.{cases_Bool, not-true, not-false, false≢true}
use Rattle.std.proofs.lemmas.Bool.Decides.{nat_tests}
use Rattle.std.proofs.lemmas.List.Sums.{passes_at_first}
use Rattle.script.specs.Words.{is_blank, begins_word, words_of, none_left}

one_blank : (c : ℕ) (cs : List ℕ) → is_blank c ≡ true → position_or_len (λ b. not (is_blank b)) (c ∷ cs) ≡ suc (position_or_len (λ b. not (is_blank b)) cs)
one_blank c cs e = rw e (omega arith)

one_letter : (c : ℕ) (cs : List ℕ) → is_blank c ≡ false → position_or_len is_blank (c ∷ cs) ≡ suc (position_or_len is_blank cs)
one_letter c cs e = rw e (omega arith)

-- past the blanks the words are the same
past_blanks : (cs : List ℕ) → words_of (drop (position_or_len (λ b. not (is_blank b)) cs) cs) ≡ words_of cs
past_blanks [] = refl
past_blanks (c ∷ cs) =
    ⊎_elim
    (λ (e : is_blank c ≡ true). rw (one_blank c cs e, e) (past_blanks cs))
    (λ (e : is_blank c ≡ false). rw (e, e) refl)
    (cases_Bool (is_blank c))

no_run : (cs : List ℕ) → begins_word cs ≡ false → position_or_len is_blank cs ≡ 0
no_run [] e = refl
no_run (c ∷ cs) e = simp (not-false (is_blank c) e)

past_word : (cs : List ℕ) → begins_word cs ≡ true → words_of cs ≡ take (position_or_len is_blank cs) cs ∷ words_of (drop (position_or_len is_blank cs) cs)
past_word [] e = absurd (false≢true e)
past_word (c ∷ cs) e =
    let here = not-true (is_blank c) e in
    ⊎_elim
    (λ (more : begins_word cs ≡ true). rw (one_letter c cs here, here, more, past_word cs more) refl)
    (λ (last : begins_word cs ≡ false). rw (one_letter c cs here, here, last, no_run cs last) refl)
    (cases_Bool (begins_word cs))

-- no word is left where all is blank
pub no_word : (cs : List ℕ) → position (λ b. not (is_blank b)) cs ≡ None → words_of cs ≡ []
no_word cs e =
    let all : length cs ≤ position_or_len (λ b. not (is_blank b)) cs = grind (arith, nat_tests) in
    sym (past_blanks cs) ∙ rw (drop_all _ cs all) refl

-- the first word, and what it leaves
pub word_first : (cs line word rest : List ℕ) (i n : ℕ) → position (λ b. not (is_blank b)) cs ≡ Some i → line ≡ drop i cs → n ≡ position_or_len is_blank line → word ≡ take n line → rest ≡ drop n line → words_of cs ≡ word ∷ words_of rest
word_first cs line word rest i n e f g h k =
    let start : i ≡ position_or_len (λ b. not (is_blank b)) cs = grind (arith, nat_tests) in
    let inside : position_or_len (λ b. not (is_blank b)) cs < length cs = grind (arith, nat_tests) in
    let begins : begins_word (drop (position_or_len (λ b. not (is_blank b)) cs) cs) ≡ true = rw (drop-cons cs _ 0 inside) (passes_at_first (λ b. not (is_blank b)) cs 0 inside) in
    sym (past_blanks cs) ∙ rw (h, k, g, f, start) (past_word (drop (position_or_len (λ b. not (is_blank b)) cs) cs) begins)

-- whether no word is left, by whether the first word begins anywhere
pub is_none_left : (r : Option ℕ) (cs : List ℕ) (b : Bool) → r ≡ position (λ b. not (is_blank b)) cs → is_some r ≡ not b → b ≡ none_left (words_of cs)
is_none_left None cs b e f = not-false b (sym f) ∙ sym (ap none_left (no_word cs (sym e)))
is_none_left (Some i) cs b e f = not-true b (sym f) ∙ sym (ap none_left (word_first cs _ _ _ i _ (sym e) refl refl refl refl))
