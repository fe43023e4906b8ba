-- A word that is spelt as a keyword.
use Rattle.std.proofs.Common.{◌≡◌, ℕ, suc, ◌+◌, ◌<◌, Option, Some, None, Ok, List, [], ◌∷◌, length, get_or, drop, sym, ap, arith, drop-cons}
use Rattle.std.specs.Option.{ok_or}
use Rattle.std.proofs.lemmas.List.{drop_all}
use Rattle.script.specs.Keywords.{keyword_of}
use Rattle.script.specs.Lines.{keyword_line, said_by}
use Rattle.script.specs.declared.faults.Fault.TheVariants.{UnknownWord}
use Rattle.script.specs.declared.keywords.Keyword.{Keyword}

-- each byte of a spelling stands in the word, from a place on
abbrev pub Spells : ℕ → List ℕ → List ℕ → Type 0
Spells i w [] = Unit {0}
Spells i w (c ∷ cs) = (get_or w i 0 ≡ c) × Spells (suc i) w cs

spelling_from : (w s : List ℕ) (i : ℕ) → length w ≡ i + length s → Spells i w s → drop i w ≡ s
spelling_from w [] i h e = drop_all i w (omega arith)
spelling_from w (c ∷ cs) i h e =
    let inside : i < length w = omega arith in
    let first = drop-cons w i 0 inside in
    let others = spelling_from w cs (suc i) (omega arith) e.1 in
    let here = e.0 in
    cc

pub keyword_spelt : (w s : List ℕ) → length w ≡ length s → Spells 0 w s → ok_or (keyword_of s) UnknownWord ≡ ok_or (keyword_of w) UnknownWord
keyword_spelt w s h e = ap (λ v. ok_or (keyword_of v) UnknownWord) (sym (spelling_from w s 0 (omega arith) e))

pub said_ok : (o : Option Keyword) (k : Keyword) (ws : List (List ℕ)) → ok_or o UnknownWord ≡ Ok k → keyword_line k ws ≡ said_by o ws
said_ok None k ws e = absurd (cc)
said_ok (Some j) k ws e = ap (λ i. keyword_line i ws) (cc)
