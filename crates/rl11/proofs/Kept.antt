-- What the drives keep, over each thing that can happen to them.
use Rattle.std.proofs.Common.{◌≡◌, ℕ, zero, suc, ◌-◌, ◌<◌, Bool, true, false, cond, not, ◌&&◌, ◌||◌, eqb, ltb, List, [], ◌∷◌, map, get_or, set, is_some, Some, None, Ok, Err, Option, Result, refl, ap, ◌∙◌, arith}
use Rattle.std.proofs.lemmas.Bool.{and_parts, and_from, or_parts, or_from, not-true, not_from_false}
use Rattle.std.proofs.lemmas.List.Elements.{All-set}
use Rattle.std.proofs.lemmas.List.Sums.{AllPass-from_list_all, list_all-from_AllPass}
use Rattle.std.proofs.lemmas.Bool.Decides.{nat_tests}
use Rattle.media.specs.declared.kinds.Kind.{Kind}
use Rattle.rl11.specs.Drive.{is_there, is_pack, holds, is_empty, runs, fresh_drive, turned, in_state, ticked_in, after_event}
use Rattle.rl11.specs.Keeps.{is_coupled, all_coupled, is_alone, packs_apart}
use Rattle.rl11.specs.Panel.{same_kind, load_check, unload_check, protect_check, with_drives, pressed}
use Rattle.rl11.specs.State.{is_unit, no_drive, drive_at, is_loaded}
use Rattle.rl11.specs.declared.drive.Drive.{Drive}
use Rattle.rl11.specs.declared.keeping.Core.{Core}
use Rattle.rl11.specs.declared.drive.DriveState.{DriveState}
use Rattle.rl11.specs.declared.drive.DriveState.TheVariants.{Empty, SpinUp, Brush, LoadHeads, Seek, LockOn, UnloadHeads, SpinDown}
use Rattle.rl11.specs.declared.drive.Event.{Event}
use Rattle.rl11.specs.declared.drive.Event.TheVariants.{Load, Unload, Protect, Tick}
use Rattle.exchanges.specs.declared.refusals.PanelRefusal.{PanelRefusal}
use Rattle.exchanges.specs.declared.refusals.PanelRefusal.TheVariants.{NoDrive, NotEmpty, NoPack, OtherKind, InAnotherDrive}
use Rattle.rl11.specs.declared.state.State.{State}

-- Fresh drives are empty.
pub fresh_coupled : (ks : List (Option Kind)) → all_coupled (map fresh_drive ks) ≡ true
fresh_coupled [] = refl
fresh_coupled (k ∷ ks) = fresh_coupled ks

pub fresh_apart : (ks : List (Option Kind)) → packs_apart (map fresh_drive ks) ≡ true
fresh_apart [] = refl
fresh_apart (k ∷ ks) = fresh_apart ks

-- One of the drives has a pack exactly outside state 0.
one_coupled : (ds : List Drive) (u : ℕ) → all_coupled ds ≡ true → is_coupled (get_or ds u no_drive) ≡ true
one_coupled [] u all = refl
one_coupled (d ∷ ds) zero all = (and_parts (is_coupled d) (all_coupled ds) all).0
one_coupled (d ∷ ds) (suc u) all = one_coupled ds u (and_parts (is_coupled d) (all_coupled ds) all).1

-- A load press puts a pack into an empty drive, an unload press leaves the pack in one that runs.
load_coupled : (p : ℕ) (d : Drive) (b : Bool) → is_coupled d ≡ true → is_coupled (cond b (turned SpinUp (Some p) d) d) ≡ true
load_coupled p d true h = refl
load_coupled p d false h = h

unload_coupled : (d : Drive) (b : Bool) → runs d.state ≡ b → is_coupled d ≡ true → is_coupled (cond b (in_state UnloadHeads d) d) ≡ true
unload_coupled d true running h = grind (arith, nat_tests)
unload_coupled d false running h = h

-- A tick leaves the pack in a drive but at the end of spin down.
tick_coupled : (s : DriveState) (d : Drive) → s ≡ d.state → is_coupled d ≡ true → is_coupled (ticked_in s d) ≡ true
tick_coupled Empty d e h = h
tick_coupled SpinUp d e h = rw (← e) at h
tick_coupled Brush d e h = rw (← e) at h
tick_coupled LoadHeads d e h = rw (← e) at h
tick_coupled (Seek n) d e h = rested (ltb 1 n) (rw (← e) at h)
  where
    rested : (b : Bool) → is_some d.pack ≡ true → is_coupled (in_state (cond b (Seek (n - 1)) LockOn) d) ≡ true
    rested true h = h
    rested false h = h
tick_coupled LockOn d e h = h
tick_coupled UnloadHeads d e h = rw (← e) at h
tick_coupled SpinDown d e h = refl

-- A press and a tick leave a drive with a pack exactly outside state 0.
event_coupled : (e : Event) (d : Drive) → is_coupled d ≡ true → is_coupled (after_event e d) ≡ true
event_coupled (Load p) d h = load_coupled p d (is_empty d.state) h
event_coupled Unload d h = unload_coupled d (runs d.state) refl h
event_coupled Protect d h = h
event_coupled Tick d h = tick_coupled d.state d refl h

-- One drive changed among the others.
set_coupled : (ds : List Drive) (u : ℕ) (d : Drive) → all_coupled ds ≡ true → is_coupled d ≡ true → all_coupled (set ds u d) ≡ true
set_coupled ds u d all one = list_all-from_AllPass is_coupled _ (All-set (λ x. is_coupled x ≡ true) ds u d one (AllPass-from_list_all is_coupled ds all))

-- What happens to one drive leaves all with a pack exactly outside state 0.
pub acted_coupled : (e : Event) (u : ℕ) (ds : List Drive) → all_coupled ds ≡ true → all_coupled (set ds u (after_event e (get_or ds u no_drive))) ≡ true
acted_coupled e u ds all =
    set_coupled ds u (after_event e (get_or ds u no_drive)) all (event_coupled e (get_or ds u no_drive) (one_coupled ds u all))

-- Whether a pack is loaded goes by the packs of the drives.
loaded_same : (q : ℕ) (ds : List Drive) (u : ℕ) (d : Drive) → d.pack ≡ (get_or ds u no_drive).pack → is_loaded q (set ds u d) ≡ is_loaded q ds
loaded_same q [] u d e = refl
loaded_same q (x ∷ ds) zero d e = ap (λ (o : Option ℕ). is_pack q o || is_loaded q ds) e
loaded_same q (x ∷ ds) (suc u) d e = ap (λ b. holds q x || b) (loaded_same q ds u d e)

-- A pack that is in none of the drives is in none after one that has not got it either has come into their row.
loaded_other : (q : ℕ) (ds : List Drive) (u : ℕ) (d : Drive) → is_loaded q ds ≡ false → holds q d ≡ false → is_loaded q (set ds u d) ≡ false
loaded_other q [] u d none not_it = refl
loaded_other q (x ∷ ds) zero d none not_it = or_from (holds q d) (is_loaded q ds) not_it (or_parts (holds q x) (is_loaded q ds) none).1
loaded_other q (x ∷ ds) (suc u) d none not_it =
    let both = or_parts (holds q x) (is_loaded q ds) none in
    or_from (holds q x) (is_loaded q (set ds u d)) both.0 (loaded_other q ds u d both.1 not_it)

-- A change of a drive that leaves its pack leaves the packs apart.
pub same_apart : (ds : List Drive) (u : ℕ) (d : Drive) → d.pack ≡ (get_or ds u no_drive).pack → packs_apart ds ≡ true → packs_apart (set ds u d) ≡ true
same_apart [] u d e h = refl
same_apart (x ∷ ds) zero d e h = ap (λ (o : Option ℕ). is_alone o ds && packs_apart ds) e ∙ h
same_apart (x ∷ ds) (suc u) d e h =
    let both = and_parts (is_alone x.pack ds) (packs_apart ds) h in
    and_from (is_alone x.pack (set ds u d)) (packs_apart (set ds u d)) (alone x.pack ∙ both.0) (same_apart ds u d e both.1)
  where
    alone : (o : Option ℕ) → is_alone o (set ds u d) ≡ is_alone o ds
    alone None = refl
    alone (Some q) = ap not (loaded_same q ds u d e)

-- A pack that is in none of the drives comes into one, and the packs stay apart.
pub new_apart : (p : ℕ) (ds : List Drive) (u : ℕ) (d : Drive) → d.pack ≡ Some p → is_loaded p ds ≡ false → packs_apart ds ≡ true → packs_apart (set ds u d) ≡ true
new_apart p [] u d e none h = refl
new_apart p (x ∷ ds) zero d e none h =
    let free = or_parts (holds p x) (is_loaded p ds) none in
    let both = and_parts (is_alone x.pack ds) (packs_apart ds) h in
    and_from (is_alone d.pack ds) (packs_apart ds) (ap (λ (o : Option ℕ). is_alone o ds) e ∙ not_from_false (is_loaded p ds) free.1) both.1
new_apart p (x ∷ ds) (suc u) d e none h =
    let free = or_parts (holds p x) (is_loaded p ds) none in
    let both = and_parts (is_alone x.pack ds) (packs_apart ds) h in
    and_from (is_alone x.pack (set ds u d)) (packs_apart (set ds u d)) (alone x.pack free.0 both.0) (new_apart p ds u d e free.1 both.1)
  where
    alone : (o : Option ℕ) → is_pack p o ≡ false → is_alone o ds ≡ true → is_alone o (set ds u d) ≡ true
    alone None other before = refl
    alone (Some q) other before =
        let swapped : eqb p q ≡ false = grind (arith, nat_tests) in
        not_from_false _ (loaded_other q ds u d (not-true (is_loaded q ds) before) (ap (is_pack q) e ∙ swapped))

-- What the controller keeps, as the ghost fields of its core say it.
abbrev pub Kept : State → Type 0
Kept s = record { coupled : all_coupled s.drives ≡ true; apart : packs_apart s.drives ≡ true; turning : s.angle < 40 }

-- The core keeps it.
kept : (core : Core) → Kept core.state
kept core = record { coupled = core.coupled; apart = core.apart; turning = core.turning }

-- A press that leaves the drive's pack keeps it all.
acted_kept : (there : Bool) (u : ℕ) (e : Event) (core : Core) → (after_event e (get_or core.state.drives u no_drive)).pack ≡ (get_or core.state.drives u no_drive).pack
    → Kept (cond there (with_drives (set core.state.drives u (after_event e (get_or core.state.drives u no_drive))) core.state) core.state)
acted_kept false u e core same = kept core
acted_kept true u e core same =
    record {
      coupled = acted_coupled e u core.state.drives core.coupled;
      apart = same_apart core.state.drives u (after_event e (get_or core.state.drives u no_drive)) same core.apart;
      turning = core.turning;
    }

pressed_kept : (r : Result (Unit {0}) PanelRefusal) (u : ℕ) (e : Event) (core : Core) → (after_event e (get_or core.state.drives u no_drive)).pack ≡ (get_or core.state.drives u no_drive).pack
    → Kept (pressed r u e core.state)
pressed_kept (Ok _) u e core same = acted_kept (is_unit u) u e core same
pressed_kept (Err _) u e core same = kept core

pub unload_kept : (u : ℕ) (core : Core) → Kept (pressed (unload_check u core.state.drives) u Unload core.state)
unload_kept u core =
    let d = get_or core.state.drives u no_drive in
    pressed_kept (unload_check u core.state.drives) u Unload core (same d (runs d.state))
  where
    same : (d : Drive) (b : Bool) → (cond b (in_state UnloadHeads d) d).pack ≡ d.pack
    same d true = refl
    same d false = refl

pub protect_kept : (u : ℕ) (core : Core) → Kept (pressed (protect_check u core.state.drives) u Protect core.state)
protect_kept u core = pressed_kept (protect_check u core.state.drives) u Protect core refl

-- A pack that is in no drive comes into an empty one.
loaded_kept : (there : Bool) (u p : ℕ) (core : Core) → is_empty (cond there (get_or core.state.drives u no_drive) no_drive).state ≡ true → is_loaded p core.state.drives ≡ false
    → Kept (cond there (with_drives (set core.state.drives u (after_event (Load p) (get_or core.state.drives u no_drive))) core.state) core.state)
loaded_kept false u p core empty free = kept core
loaded_kept true u p core empty free =
    record {
      coupled = acted_coupled (Load p) u core.state.drives core.coupled;
      apart = new_apart p core.state.drives u _ (brought (get_or core.state.drives u no_drive) empty) free core.apart;
      turning = core.turning;
    }
  where
    brought : (d : Drive) → is_empty d.state ≡ true → (after_event (Load p) d).pack ≡ Some p
    brought d e = rw e

pub load_kept : (u p : ℕ) (offered : Option Kind) (core : Core) → Kept (pressed (load_check u p offered core.state.drives) u (Load p) core.state)
load_kept u p offered core =
    checked (is_there (drive_at core.state.drives u)) (is_empty (drive_at core.state.drives u).state) (is_some offered)
    (same_kind offered (drive_at core.state.drives u).kind) (is_loaded p core.state.drives) refl refl
  where
    checked : (there empty given fits taken : Bool) → is_empty (drive_at core.state.drives u).state ≡ empty → is_loaded p core.state.drives ≡ taken
        → Kept (pressed (cond (not there) (Err NoDrive) (cond (not empty) (Err NotEmpty) (cond (not given) (Err NoPack) (cond (not fits) (Err OtherKind) (cond taken (Err InAnotherDrive) (Ok tt)))))) u (Load p) core.state)
    checked false empty given fits taken e l = kept core
    checked true false given fits taken e l = kept core
    checked true true false fits taken e l = kept core
    checked true true true false taken e l = kept core
    checked true true true true true e l = kept core
    checked true true true true false e l = loaded_kept (is_unit u) u p core e l
