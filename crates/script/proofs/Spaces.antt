-- A line told again word by word.
use Rattle.std.proofs.Common.{◌≡◌, ℕ, Bool, true, false, not, ◌&&◌, eqb, List, [], ◌∷◌, ◌++◌, refl, ap, ⊎_elim, append_assoc}
use lib.Utf8.{encode, encodes}
use Rattle.std.proofs.lemmas.Str.{encodes-append}
use Rattle.std.proofs.lemmas.Bool.{cases_Bool, false≢true, not-true, and_parts}
use Rattle.script.specs.Echoes.{joined, spaced}
use Rattle.script.specs.Words.{is_blank, begins_word, lengthened, words_of, line_words}

-- a line whose first word is told
pub told_first : (line ws : List (List ℕ)) (w s : List ℕ) → line ≡ w ∷ ws → s ≡ encodes w → encodes (joined line) ≡ s ++ encodes (spaced ws)
told_first line ws w s e f = rw (e, f) (encodes-append w (spaced ws))

-- a line of no words
pub told_none : (line ws : List (List ℕ)) (s : List ℕ) → line ≡ [] → ws ≡ [] → s ≡ [] → encodes (joined line) ≡ s ++ encodes (spaced ws)
told_none line ws s e f g = rw (e, f, g) refl

-- a word more is told
pub told_more : (whole s t w : List ℕ) (ws : List (List ℕ)) → whole ≡ s ++ encodes (spaced (w ∷ ws)) → t ≡ (s ++ encode 32) ++ encodes w → whole ≡ t ++ encodes (spaced ws)
told_more whole s t w ws e f = rw (e, f) (simp (append_assoc, encodes-append))

-- a word has bytes, none of which is blank
abbrev no_blank : List ℕ → Bool
no_blank [] = true
no_blank (c ∷ cs) = not (is_blank c) && no_blank cs

abbrev is_word : List ℕ → Bool
is_word [] = false
is_word (c ∷ cs) = not (is_blank c) && no_blank cs

abbrev all_words : List (List ℕ) → Bool
all_words [] = true
all_words (w ∷ ws) = is_word w && all_words ws

longer_words : (c : ℕ) (ws : List (List ℕ)) → is_blank c ≡ false → all_words ws ≡ true → all_words (lengthened c ws) ≡ true
longer_words c [] e h = rw e refl
longer_words c ([] ∷ ws) e h = absurd (false≢true h)
longer_words c ((d ∷ w) ∷ ws) e h = rw e h

proper : (cs : List ℕ) → all_words (words_of cs) ≡ true
proper [] = refl
proper (c ∷ cs) =
    ⊎_elim
    (λ (e : is_blank c ≡ true). rw e (proper cs))
    (λ (e : is_blank c ≡ false).
    ⊎_elim
    (λ (b : begins_word cs ≡ true). rw (e, b) (longer_words c (words_of cs) e (proper cs)))
    (λ (b : begins_word cs ≡ false). rw (e, b) (rw e (proper cs)))
    (cases_Bool (begins_word cs)))
    (cases_Bool (is_blank c))

word_then : (w rest : List ℕ) (ws : List (List ℕ)) → is_word w ≡ true → begins_word rest ≡ false → words_of rest ≡ ws → words_of (w ++ rest) ≡ w ∷ ws
word_then [] rest ws h b k = absurd (false≢true h)
word_then (c ∷ []) rest ws h b k =
    let e = not-true (is_blank c) (and_parts (not (is_blank c)) true h).0 in
    rw (e, b, k) refl
word_then (c ∷ (d ∷ w)) rest ws h b k =
    let parts = and_parts (not (is_blank c)) (no_blank (d ∷ w)) h in
    let e = not-true (is_blank c) parts.0 in
    let next = (and_parts (not (is_blank d)) (no_blank w) parts.1).0 in
    rw (e, next) (ap (lengthened c) (word_then (d ∷ w) rest ws parts.1 b k))

no_word_first : (ws : List (List ℕ)) → begins_word (spaced ws) ≡ false
no_word_first [] = refl
no_word_first (w ∷ ws) = refl

spaced_words : (ws : List (List ℕ)) → all_words ws ≡ true → words_of (spaced ws) ≡ ws
spaced_words [] h = refl
spaced_words (w ∷ ws) h =
    let parts = and_parts (is_word w) (all_words ws) h in
    word_then w (spaced ws) ws parts.0 (no_word_first ws) (spaced_words ws parts.1)

joined_words : (ws : List (List ℕ)) → all_words ws ≡ true → words_of (joined ws) ≡ ws
joined_words [] h = refl
joined_words (w ∷ ws) h =
    let parts = and_parts (is_word w) (all_words ws) h in
    word_then w (spaced ws) ws parts.0 (no_word_first ws) (spaced_words ws parts.1)

-- what is told again has the same words
pub same_words : (l : List ℕ) → words_of (joined (line_words l)) ≡ line_words l
same_words [] = refl
same_words (c ∷ cs) =
    ⊎_elim
    (λ (e : eqb c 35 ≡ true). rw e refl)
    (λ (e : eqb c 35 ≡ false). rw e (joined_words (words_of (c ∷ cs)) (proper (c ∷ cs))))
    (cases_Bool (eqb c 35))
