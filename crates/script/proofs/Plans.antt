-- A script grows line by line.
use Rattle.std.proofs.Common.{◌≡◌, ℕ, Bool, false, cond, not, eqb, List, [], ◌∷◌, ◌++◌, map, length, Ok, Err, Result, Option, Some, None, Bor, sym, refl, ap, ◌∙◌, arith}
use Rattle.std.specs.Iterator.{YieldsFirstBy}
use Rattle.std.proofs.lemmas.Bool.{true≢false}
use Rattle.std.proofs.lemmas.Bool.Decides.{nat_tests}
use Rattle.script.specs.Arguments.{and_then}
use Rattle.script.specs.Lines.{line_of}
use Rattle.script.specs.Scripts.{Plan, told_by, with_pokes, poked, poke_lines, is_begun, set_up, line_added, Reported}
use Rattle.script.specs.Words.{none_left, others_of, line_words}
use Rattle.script.specs.declared.faults.Fault.{Fault}
use Rattle.script.specs.declared.faults.Fault.TheVariants.{LateSetup}
use Rattle.script.specs.declared.lines.Line.TheVariants as line
use Rattle.script.specs.declared.scripts.LineError.{LineError}
use Rattle.script.specs.declared.scripts.LineError.TheVariants as line_error
use Rattle.script.specs.declared.scripts.PokeLine.{PokeLine}
use Rattle.script.specs.declared.scripts.StepLine.{StepLine}
use Rattle.script.specs.declared.setup.Setup.{Setup}

-- what a word taken leaves
pub others_left : (ws vs : List (List ℕ)) (w : Option (Bor (List ℕ))) → YieldsFirstBy (λ x. x.now) (λ xs. xs) ws w vs → vs ≡ others_of ws
others_left ws vs None e = e.1 ∙ sym (ap others_of e.0)
others_left ws vs (Some w) e = sym (ap others_of e)

-- a plan with other words for memory
abbrev pub with_poked : Plan → List PokeLine → Plan
with_poked p ps = record { drives = p.drives; shelf = p.shelf; memory = p.memory; cards = p.cards; pokes = ps; steps = p.steps }

-- words for memory that were pushed go before those to come
abbrev pub pushed : List PokeLine → Result (List PokeLine) Fault → Result (List PokeLine) Fault
pushed before r = and_then r (λ ps. Ok (before ++ ps))

pub some_poked : (n a : ℕ) (ws : List (List ℕ)) → none_left ws ≡ false → poke_lines n a ws ≡ poked n a ws
some_poked n a [] some = absurd (true≢false some)
some_poked n a (w ∷ ws) some = refl

poked_ok : (r : Result (List PokeLine) Fault) (p : Plan) (after : List PokeLine) → pushed p.pokes r ≡ Ok after → and_then r (λ ps. Ok (with_pokes ps p)) ≡ Ok (with_poked p after)
poked_ok (Ok ps) p after e = let f : p.pokes ++ ps ≡ after = cc in ap (λ qs. Ok (with_poked p qs)) f
poked_ok (Err x) p after e = let z : ◌≡◌ {A = ℕ} 0 1 = cc in absurd (omega arith)

poked_err : (r : Result (List PokeLine) Fault) (p : Plan) (f : Fault) → pushed p.pokes r ≡ Err f → and_then r (λ ps. Ok (with_pokes ps p)) ≡ Err f
poked_err (Ok ps) p f e = let z : ◌≡◌ {A = ℕ} 0 1 = cc in absurd (omega arith)
poked_err (Err x) p f e = cc

pub plan_poked : (r : Result (List PokeLine) Fault) (p : Plan) (x : Result (Unit {0}) LineError) (after : List PokeLine) → Reported (pushed p.pokes r) x after → Reported (and_then r (λ ps. Ok (with_pokes ps p))) x (with_poked p after)
plan_poked r p (Ok _) after e = poked_ok r p after e
plan_poked r p (Err (line_error.Fault f)) after e = poked_err r p f e
plan_poked r p (Err line_error.NoMemory) after e = tt

-- a script that has steps
pub begun_by : (ss : List StepLine) (n : ℕ) → n ≡ length ss → is_begun (map told_by ss) ≡ not (eqb n 0)
begun_by [] n e = rw e refl
begun_by (s ∷ ss) n e = grind (arith, nat_tests)

pub setup_line : (n : ℕ) (l : List ℕ) (s : Setup) (p : Plan) (b : Bool) → line_of (line_words l) ≡ Ok (line.Setup s) → is_begun p.steps ≡ b → line_added n l p ≡ cond b (Err LateSetup) (set_up n (line_words l) s p)
setup_line n l s p b e f = rw (e, f) refl
