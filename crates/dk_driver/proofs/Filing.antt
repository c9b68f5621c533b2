-- Reading a file block by block.
use Rattle.std.proofs.Common.{◌≡◌, ◌+◌, ◌-◌, ℕ, List, [], ◌∷◌, ◌++◌, length, inl, inr, Bool, true, false, is_some, Option, Some, None, IfSome, IsErrOf, Result, Ok, Err, refl, sym, ◌∙◌, ap, subst, arith, append_assoc, length-append}
use Rattle.std.specs.Io.KnownBytes.{prepend_known}
use Rattle.std.proofs.lemmas.List.{append-nil}
use Rattle.dk_base.specs.Reading.{LineFault}
use Rattle.dk_base.specs.declared.faults.Fault.{Fault}
use Rattle.dk_base.specs.declared.faults.Fault.TheVariants as f
use Rattle.dk_blocks.proofs.LastLines.{blank_ends}
use Rattle.dk_blocks.specs.Blocks.{Groups, Last, groups_of}
use Rattle.dk_blocks.specs.History.{Effect, History, effect_of, file_ended}
use Rattle.dk_blocks.specs.Reading.{after_next}
use Rattle.dk_blocks.specs.Steps.{FaultAnswers, Steps, groups_left}
use Rattle.dk_events.specs.Standing.{ignores_of, over_of}
use Rattle.dk_io.specs.Outside.{HeldFile, Holds, Starts}
use Rattle.dk_lines.proofs.Lined.{at_end}
use Rattle.dk_lines.specs.Left.{Left, Over}
use Rattle.dk_lines.specs.Reading.{Reading, room_of, left_of}
use Rattle.dk_driver.proofs.Trails.{Follows, follows, no_block_ends, no_lines, onto_more, records_more}
use Rattle.dk_driver.specs.Consuming.{Record, Told}
use Rattle.dk_driver.specs.Standing.{StandsBehind, StandsFor}
use Rattle.dk_driver.specs.Steps.{FindsBlock, FindsNone, NextBlock}
use Rattle.dk_driver.specs.Trails.{Step, Trail, behind_steps, goes_on, trail_behind, trail_end}
use Rattle.dk_driver.specs.Walks.{records_in, records_of}
use Rattle.dk_driver.specs.WholeFile.{BlockFaultGives, ComesToEnd, FaultGives, FileGives, FileGoesOn, HasFault, IsBroken, IsShort, StartedGives, Within, file_fault_of, fresh_reading, nothing_written}
use Rattle.dk_driver.specs.declared.fault.FileFault.{FileFault}
use Rattle.dk_driver.specs.declared.fault.FileFault.TheVariants as t
use Rattle.dk_driver.specs.declared.feed.Feed.{Feed}

-- ---- bytes
split_on : (xs front ys more zs : List ℕ) → xs ≡ front ++ ys → ys ≡ more ++ zs → xs ≡ (front ++ more) ++ zs
split_on xs front ys more zs e f = e ∙ ap (λ (l : List ℕ). front ++ l) f ∙ sym (append_assoc front more zs)

room_on : (a b c : ℕ) (front more : List ℕ) → b ≡ a - length front → c ≡ b - length more → c ≡ a - length (front ++ more)
room_on a b c front more e f = omega (arith, e, f, length-append front more)

nothing_behind : (front zs : List ℕ) → [] ≡ front ++ zs → zs ≡ []
nothing_behind [] zs e = sym e
nothing_behind (b ∷ bs) zs e = absurd (cc (e))

-- ---- one block
pub some_effect : (effect : Option Effect) → true ≡ is_some effect → (e : Effect) × (effect ≡ Some e)
some_effect (Some e) found = (e, refl)
some_effect None found = absurd (cc found)

pub no_effect : (effect : Option Effect) → false ≡ is_some effect → effect ≡ None
no_effect (Some e) found = absurd (cc found)
no_effect None found = refl

-- what the next block says of the trail
trail_on : (ignores : Bool) (place : ℕ) (h next : History) (effect : Effect) (gs left : Groups) → after_next ignores (effect_of ignores h) gs ≡ Ok (record { effect = Some effect; history = next; left = left })
    → trail_behind ignores place h gs ≡ behind_steps (record { file = place; effect = effect; history = next } ∷ []) (trail_behind ignores place next left)
trail_on ignores place h next effect gs left takes = (subst (Follows ignores place (effect_of ignores h) gs) takes (follows ignores place (effect_of ignores h) gs)).0

trail_over : (ignores : Bool) (place : ℕ) (h next : History) (gs left : Groups) → after_next ignores (effect_of ignores h) gs ≡ Ok (record { effect = None; history = next; left = left })
    → trail_behind ignores place h gs ≡ trail_end (Ok next)
trail_over ignores place h next gs left takes = (subst (Follows ignores place (effect_of ignores h) gs) takes (follows ignores place (effect_of ignores h) gs)).1 refl

trail_fault : (ignores : Bool) (place : ℕ) (h : History) (gs : Groups) (fault : LineFault) → after_next ignores (effect_of ignores h) gs ≡ Err fault → trail_behind ignores place h gs ≡ trail_end (Err fault)
trail_fault ignores place h gs fault takes = subst (Follows ignores place (effect_of ignores h) gs) takes (follows ignores place (effect_of ignores h) gs)

-- nothing is left of an ended file
nothing_more : (ignores : Bool) (place : ℕ) (h : History) (line : ℕ) → trail_behind ignores place h (Last [] (Over line)) ≡ trail_end (Ok h)
nothing_more ignores place h line = ap (λ e. goes_on place e (λ h. trail_end (Ok h))) (no_lines ignores h (Some line))

trail_done : (ignores : Bool) (place : ℕ) (h : History) (over : Bool) (r : Reading) → trail_behind ignores place h (groups_left over r true []) ≡ trail_end (Ok h)
trail_done ignores place h true r = nothing_more ignores place h (r.number + 1)
trail_done ignores place h false r = ap (λ (l : Left). trail_behind ignores place h (groups_of l)) (at_end r) ∙ nothing_more ignores place h (r.number + 1)

-- these steps, and then the end
onto_end : {F : Type 0} (found : List Step) (e : Result History F) → behind_steps found (trail_end e) ≡ record { steps = found; end = e }
onto_end found e = ap (λ (l : List Step). record { steps = l; end = e }) (append-nil found)

module _ (ignores : Bool) (place : ℕ) (h : History) (r : Reading) (xs : List ℕ) where
  within_on : (h1 h2 : History) (new last : Reading) (ys zs : List ℕ) (found : List Step) (effect : Effect) (over over2 : Bool)
      → Within ignores place h r xs found h1 over new ys → Steps ignores (effect_of ignores h1) over new ys (Ok (record { history = h2; effect = Some effect })) over2 last zs
      → Within ignores place h r xs (found ++ record { file = place; effect = effect; history = h2 } ∷ []) h2 over2 last zs
  within_on h1 h2 new last ys zs found effect over over2 a b =
      let one : List Step = record { file = place; effect = effect; history = h2 } ∷ [] in
      record {
        front = a.front ++ b.front;
        split = split_on xs a.front ys b.front zs a.split b.split;
        room = room_on (room_of r) (room_of new) (room_of last) a.front b.front a.room b.room;
        nothing = b.nothing a.nothing;
        last = λ leaves. a.last (b.last leaves);
        same = a.same ∙ ap (behind_steps found) (trail_on ignores place h1 h2 effect (groups_left over new true ys) (groups_left over2 last true zs) b.takes)
            ∙ onto_more found one (trail_behind ignores place h2 (groups_left over2 last true zs));
        cut = λ d rest e. elim (a.cut (b.front ++ d) rest (split_on ys b.front zs d rest b.split e)) [
          | inl same ↦ elim (b.cut d rest e) [
            | inl more ↦ inl (
                ap (λ (l : List ℕ). trail_behind ignores place h (groups_left false r false l)) (append_assoc a.front b.front d)
                ∙ same ∙ ap (behind_steps found) (trail_on ignores place h1 h2 effect (groups_left over new false (b.front ++ d)) (groups_left over2 last false d) more)
                ∙ onto_more found one (trail_behind ignores place h2 (groups_left over2 last false d)))
            | inr none ↦ inr (none.0.0, λ goes. a.last (none.0.1 goes))
          ]
          | inr none ↦ inr (nothing_behind b.front zs (sym none.0 ∙ b.split), λ goes. absurd (cc (goes, b.ends none.0)))
        ];
      }

-- ---- a file
-- what is said of the bytes that are left
at_left : (P : List ℕ → Type 0) (o : Option (List ℕ)) (ys : List ℕ) → o ≡ Some ys → IfSome o P → P ys
at_left P o ys is gives = subst (λ (o : Option (List ℕ)). IfSome o P) is gives

module _ (ignores : Bool) (place : ℕ) (h : History) (before : List Step) (r : Reading) where
  -- in front of the first block
  pub not_begun : (o : Option (List ℕ)) (Stands : History → List Step → Type 0) (over : Bool) → over ≡ false → Stands h before → IfSome o (λ xs. FileGoesOn ignores place h before r xs Stands over r o)
  not_begun None Stands over begun stands = tt
  not_begun (Some xs) Stands over begun stands = record {
    found = [];
    next = h;
    stands = subst (Stands h) (sym (append-nil before)) stands;
    ys = xs;
    left_is = refl;
    within = record {
      front = [];
      split = refl;
      room = omega arith;
      nothing = λ is. absurd (cc (begun, is));
      last = λ leaves. leaves;
      same = ap (λ (b : Bool). trail_behind ignores place h (groups_left b r true xs)) (sym begun);
      cut = λ d rest e. inl (ap (λ (b : Bool). trail_behind ignores place h (groups_left b r false d)) (sym begun));
    };
  }

  module _ (new last : Reading) (o mid left : Option (List ℕ)) (Stands Next : History → List Step → Type 0) (over over2 : Bool) where
    -- one block more
    pub file_on : IfSome o (λ xs. FileGoesOn ignores place h before r xs Stands over new mid)
        → ((h1 : History) (steps : List Step) → Stands h1 steps → IfSome mid (λ ys. FindsBlock Next ignores place h1 steps over new ys over2 last left))
        → IfSome o (λ xs. FileGoesOn ignores place h before r xs Next over2 last left)
    file_on goes answers = go o goes where
      go : (o : Option (List ℕ)) → IfSome o (λ xs. FileGoesOn ignores place h before r xs Stands over new mid) → IfSome o (λ xs. FileGoesOn ignores place h before r xs Next over2 last left)
      go None goes = tt
      go (Some xs) a =
          let b = at_left (λ ys. FindsBlock Next ignores place a.next (before ++ a.found) over new ys over2 last left) mid a.ys a.left_is (answers a.next (before ++ a.found) a.stands) in
          let one : List Step = record { file = place; effect = b.effect; history = b.next } ∷ [] in
          record {
            found = a.found ++ one;
            next = b.next;
            stands = subst (Next b.next) (append_assoc before a.found one) b.stands;
            ys = b.ys;
            left_is = b.left_is;
            within = within_on ignores place h r xs a.next b.next new last a.ys b.ys a.found b.effect over over2 a.within b.takes;
          }

    -- one block more, behind which this alone holds
    pub file_short : IfSome o (λ xs. FileGoesOn ignores place h before r xs Stands over new mid)
        → ((h1 : History) (steps : List Step) → Stands h1 steps → IfSome mid (λ ys. FindsBlock Next ignores place h1 steps over new ys over2 last left))
        → (Wrote : List Step → Type 0) → ((h1 : History) (steps : List Step) → Next h1 steps → Wrote steps)
        → IfSome o (λ xs. IsShort ignores place h before r xs Wrote)
    file_short goes answers Wrote wrote = go o (file_on goes answers) where
      go : (o : Option (List ℕ)) → IfSome o (λ xs. FileGoesOn ignores place h before r xs Next over2 last left) → IfSome o (λ xs. IsShort ignores place h before r xs Wrote)
      go None goes = tt
      go (Some xs) a = record {
        found = a.found;
        wrote = wrote a.next (before ++ a.found) a.stands;
        more = (trail_behind ignores place a.next (groups_left over2 last true a.ys)).steps;
        all = ap (λ (t : Trail LineFault). t.steps) a.within.same;
      }

    -- no block more
    pub file_end : IfSome o (λ xs. FileGoesOn ignores place h before r xs Stands over new mid)
        → ((h1 : History) (steps : List Step) → Stands h1 steps → IfSome mid (λ ys. FindsNone Next ignores h1 steps over new ys over2 last left))
        → over2 ≡ true → (Done : History → List Step → Type 0) → ((h1 : History) (steps : List Step) → Next h1 steps → Done (file_ended h1) steps)
        → IfSome o (λ xs. ComesToEnd ignores place h before r xs Done last left)
    file_end goes answers is_over Done ended = go o goes where
      go : (o : Option (List ℕ)) → IfSome o (λ xs. FileGoesOn ignores place h before r xs Stands over new mid) → IfSome o (λ xs. ComesToEnd ignores place h before r xs Done last left)
      go None goes = tt
      go (Some xs) a =
          let b = at_left (λ ys. FindsNone Next ignores a.next (before ++ a.found) over new ys over2 last left) mid a.ys a.left_is (answers a.next (before ++ a.found) a.stands) in
          let steps = b.takes in
          let nothing = steps.nothing a.within.nothing is_over in
          let all : xs ≡ a.within.front ++ steps.front =
          split_on xs a.within.front a.ys steps.front b.ys a.within.split steps.split ∙ ap (λ (l : List ℕ). (a.within.front ++ steps.front) ++ l) nothing ∙ append-nil (a.within.front ++ steps.front) in
          record {
            found = a.found;
            next = b.next;
            stands = ended b.next (before ++ a.found) b.stands;
            nothing_left = b.left_is ∙ ap (λ (l : List ℕ). Some l) nothing;
            room = room_on (room_of r) (room_of new) (room_of last) a.within.front steps.front a.within.room steps.room ∙ ap (λ (l : List ℕ). room_of r - length l) (sym all);
            all = a.within.same ∙ ap (behind_steps a.found) (trail_over ignores place a.next b.next (groups_left over new true a.ys) (groups_left over2 last true b.ys) steps.takes)
                ∙ onto_end a.found (Ok b.next);
          }

  -- a fault of the next block is the file's
  pub block_fault : (new : Reading) (o mid left : Option (List ℕ)) (Stands : History → List Step → Type 0) (Wrote : List Step → Type 0) (over : Bool) (fault : Fault)
      → IfSome o (λ xs. FileGoesOn ignores place h before r xs Stands over new mid)
      → ((h1 : History) (steps : List Step) → Stands h1 steps → IfSome mid (λ ys. FaultAnswers ignores (effect_of ignores h1) over new ys fault left))
      → ((h1 : History) (steps : List Step) → Stands h1 steps → Wrote steps)
      → IfSome o (λ xs. BlockFaultGives ignores place h before r xs Wrote fault left)
  block_fault new None mid left Stands Wrote over fault goes answers wrote = tt
  block_fault new (Some xs) mid left Stands Wrote over fault a answers wrote =
      go fault (at_left (λ ys. FaultAnswers ignores (effect_of ignores a.next) over new ys fault left) mid a.ys a.left_is (answers a.next (before ++ a.found) a.stands)) where
        go : (fault : Fault) → FaultAnswers ignores (effect_of ignores a.next) over new a.ys fault left → BlockFaultGives ignores place h before r xs Wrote fault left
        go (f.Refused file line why) takes = record {
          found = a.found;
          wrote = wrote a.next (before ++ a.found) a.stands;
          all = a.within.same ∙ ap (behind_steps a.found) (trail_fault ignores place a.next (groups_left over new true a.ys) (record { line = line; why = why }) takes)
              ∙ onto_end a.found (Err (record { line = line; why = why }));
        }
        go (f.Read file) stops = elim (a.within.cut stops.front stops.rest stops.split) [
          | inl same ↦
              let (last_h, none) = no_block_ends ignores place (effect_of ignores a.next) (groups_left over new false stops.front) stops.fine in
              record {
                front = a.within.front ++ stops.front;
                rest = stops.rest;
                left_is = stops.left_is;
                split = split_on xs a.within.front a.ys stops.front stops.rest a.within.split stops.split;
                is_ended = false;
                ended = λ e. absurd (cc (e));
                found = a.found;
                wrote = wrote a.next (before ++ a.found) a.stands;
                next = last_h;
                all = same ∙ ap (behind_steps a.found) none ∙ onto_end a.found (Ok last_h);
              }
          | inr nothing ↦
              record {
                front = xs;
                rest = [];
                left_is = stops.left_is ∙ ap (λ (l : List ℕ). Some l) (nothing_behind stops.front stops.rest (sym nothing.0 ∙ stops.split));
                split = sym (append-nil xs);
                is_ended = true;
                ended = λ e. (refl, blank_ends r xs (nothing.1 stops.goes_on));
                found = a.found;
                wrote = wrote a.next (before ++ a.found) a.stands;
                next = a.next;
                all = a.within.same
                    ∙ ap (behind_steps a.found) (ap (λ (l : List ℕ). trail_behind ignores place a.next (groups_left over new true l)) nothing.0 ∙ trail_done ignores place a.next over new)
                    ∙ onto_end a.found (Ok a.next);
              }
        ]
        go f.NoMemory gives = record {
          found = a.found;
          wrote = wrote a.next (before ++ a.found) a.stands;
          more = (trail_behind ignores place a.next (groups_left over new true a.ys)).steps;
          all = ap (λ (t : Trail LineFault). t.steps) a.within.same;
        }

-- ---- a whole file
-- what holds of a started file holds of its bytes, where they are told
pub told : (P : Reading → List ℕ → Type 0) (r mid : Reading) (held : HeldFile) (xs : List ℕ) (rest : Option (List ℕ))
    → mid ≡ fresh_reading r → Starts held rest → held ≡ Holds xs → IfSome (left_of mid rest) (λ xs. P mid xs) → P (fresh_reading r) xs
told P r mid held xs rest is starts holds gives =
    let bytes : rest ≡ Some xs = subst (λ (h : HeldFile). Starts h rest) holds starts in
    subst (λ (o : Option (List ℕ)). IfSome (left_of (fresh_reading r) o) (λ xs. P (fresh_reading r) xs)) bytes
    (subst (λ (m : Reading). IfSome (left_of m rest) (λ xs. P m xs)) is gives)

front_nil : (o : Option (List ℕ)) → prepend_known [] o ≡ o
front_nil None = refl
front_nil (Some xs) = refl

pub nothing_left : (ahead : List ℕ) (after : Option (List ℕ)) → prepend_known ahead after ≡ Some [] → after ≡ Some []
nothing_left ahead None e = absurd (cc (e))
nothing_left [] (Some xs) e = e
nothing_left (b ∷ bs) (Some xs) e = absurd (cc (e))

pub nothing_ahead : (ahead : List ℕ) (after left : Option (List ℕ)) → ahead ≡ [] → prepend_known ahead after ≡ left → after ≡ left
nothing_ahead ahead after left none e = sym (front_nil after) ∙ ap (λ (a : List ℕ). prepend_known a after) (sym none) ∙ e

-- nothing is held ahead where a file is read to its end, or a read failed
pub whole_end : (ignores : Bool) (place : ℕ) (h : History) (before : List Step) (r last : Reading) (xs : List ℕ) (Stands : History → List Step → Type 0) (after : Option (List ℕ))
    → ComesToEnd ignores place h before r xs Stands last (left_of last after) → ComesToEnd ignores place h before r xs Stands last after
whole_end ignores place h before r last xs Stands after e =
    record { found = e.found; next = e.next; stands = e.stands; nothing_left = nothing_left last.ahead after e.nothing_left; room = e.room; all = e.all }

pub whole_break : (ignores : Bool) (place : ℕ) (h : History) (before : List Step) (r last : Reading) (xs : List ℕ) (Wrote : List Step → Type 0) (after : Option (List ℕ))
    → last.ahead ≡ [] → IsBroken ignores place h before r xs Wrote (left_of last after) → IsBroken ignores place h before r xs Wrote after
whole_break ignores place h before r last xs Wrote after emptied e = record {
  front = e.front;
  rest = e.rest;
  left_is = nothing_ahead last.ahead after (Some e.rest) emptied e.left_is;
  split = e.split;
  is_ended = e.is_ended;
  ended = e.ended;
  found = e.found;
  wrote = e.wrote;
  next = e.next;
  all = e.all;
}

-- ---- a feed
module _ {C : Type 0} (Stands : C → Told → Type 0) (ignores : Bool) (place : ℕ) (h : History) (before : List Step) (r : Reading) where
  -- what the next block says to a feed that stands behind steps
  module _ (new last : Reading) (mid left : Option (List ℕ)) (c next : Feed C) (same : ignores_of c.events ≡ ignores) where
    finds_block : ((h : History) (records : List Record) → StandsFor Stands c h records → IfSome mid (λ ys. NextBlock Stands c place h records new ys (Ok (next, true)) last left))
        → (h1 : History) (steps : List Step) → StandsBehind Stands c h1 steps → IfSome mid (λ ys. FindsBlock (StandsBehind Stands next) ignores place h1 steps (over_of c.events) new ys (over_of next.events) last left)
    finds_block answers h1 steps stands = go mid (answers h1 (records_of steps) stands) where
      go : (o : Option (List ℕ)) → IfSome o (λ ys. NextBlock Stands c place h1 (records_of steps) new ys (Ok (next, true)) last left)
          → IfSome o (λ ys. FindsBlock (StandsBehind Stands next) ignores place h1 steps (over_of c.events) new ys (over_of next.events) last left)
      go None gives = tt
      go (Some ys) (h2, (effect, stands, found, (zs, is, takes))) =
          let there = some_effect effect found in
          record {
            next = h2;
            effect = there.0;
            stands = subst (StandsFor Stands next h2) (sym (records_more steps place there.0 h2))
                (subst (λ (o : Option Effect). StandsFor Stands next h2 (records_of steps ++ records_in place (record { history = h2; effect = o }))) there.1 stands);
            ys = zs;
            left_is = is;
            takes = subst (λ (o : Option Effect). Steps ignores (effect_of ignores h1) (over_of c.events) new ys (Ok (record { history = h2; effect = o })) (over_of next.events) last zs) there.1
                (subst (λ (b : Bool). Steps b (effect_of b h1) (over_of c.events) new ys (Ok (record { history = h2; effect = effect })) (over_of next.events) last zs) same takes);
          }

    finds_none : ((h : History) (records : List Record) → StandsFor Stands c h records → IfSome mid (λ ys. NextBlock Stands c place h records new ys (Ok (next, false)) last left))
        → (h1 : History) (steps : List Step) → StandsBehind Stands c h1 steps → IfSome mid (λ ys. FindsNone (StandsBehind Stands next) ignores h1 steps (over_of c.events) new ys (over_of next.events) last left)
    finds_none answers h1 steps stands = go mid (answers h1 (records_of steps) stands) where
      go : (o : Option (List ℕ)) → IfSome o (λ ys. NextBlock Stands c place h1 (records_of steps) new ys (Ok (next, false)) last left)
          → IfSome o (λ ys. FindsNone (StandsBehind Stands next) ignores h1 steps (over_of c.events) new ys (over_of next.events) last left)
      go None gives = tt
      go (Some ys) (h2, (effect, stands, found, (zs, is, takes))) =
          let none = no_effect effect found in
          record {
            next = h2;
            stands = subst (StandsFor Stands next h2) (append-nil (records_of steps))
                (subst (λ (o : Option Effect). StandsFor Stands next h2 (records_of steps ++ records_in place (record { history = h2; effect = o }))) none stands);
            ys = zs;
            left_is = is;
            takes = subst (λ (o : Option Effect). Steps ignores (effect_of ignores h1) (over_of c.events) new ys (Ok (record { history = h2; effect = o })) (over_of next.events) last zs) none
                (subst (λ (b : Bool). Steps b (effect_of b h1) (over_of c.events) new ys (Ok (record { history = h2; effect = effect })) (over_of next.events) last zs) same takes);
          }

    -- one block more
    pub feed_on : (o : Option (List ℕ)) → IfSome o (λ xs. FileGoesOn ignores place h before r xs (StandsBehind Stands c) (over_of c.events) new mid)
        → ((h : History) (records : List Record) → StandsFor Stands c h records → IfSome mid (λ ys. NextBlock Stands c place h records new ys (Ok (next, true)) last left))
        → IfSome o (λ xs. FileGoesOn ignores place h before r xs (StandsBehind Stands next) (over_of next.events) last left)
    feed_on o goes answers = file_on ignores place h before r new last o mid left (StandsBehind Stands c) (StandsBehind Stands next) (over_of c.events) (over_of next.events) goes (finds_block answers)

    -- no block more
    pub feed_end : (o : Option (List ℕ)) (done : Feed C) → IfSome o (λ xs. FileGoesOn ignores place h before r xs (StandsBehind Stands c) (over_of c.events) new mid)
        → ((h : History) (records : List Record) → StandsFor Stands c h records → IfSome mid (λ ys. NextBlock Stands c place h records new ys (Ok (next, false)) last left))
        → over_of next.events ≡ true → ((h : History) (records : List Record) → StandsFor Stands next h records → StandsFor Stands done (file_ended h) records)
        → IfSome o (λ xs. ComesToEnd ignores place h before r xs (StandsBehind Stands done) last left)
    feed_end o done goes answers over ended =
        file_end ignores place h before r new last o mid left (StandsBehind Stands c) (StandsBehind Stands next) (over_of c.events) (over_of next.events) goes (finds_none answers) over
        (StandsBehind Stands done) (λ h1 steps stands. ended h1 (records_of steps) stands)

  -- a fault of the next block is the file's
  pub feed_fault : (new : Reading) (o mid left : Option (List ℕ)) (c : Feed C) (fault : Fault) → ignores_of c.events ≡ ignores
      → IfSome o (λ xs. FileGoesOn ignores place h before r xs (StandsBehind Stands c) (over_of c.events) new mid)
      → ((h : History) (records : List Record) → StandsFor Stands c h records → IfSome mid (λ ys. FaultAnswers (ignores_of c.events) (effect_of (ignores_of c.events) h) (over_of c.events) new ys fault left))
      → IfSome o (λ xs. FaultGives ignores place h before r xs (file_fault_of fault) left)
  feed_fault new o mid left c fault same goes answers =
      go fault o (block_fault ignores place h before r new o mid left (StandsBehind Stands c) nothing_written (over_of c.events) fault goes
      (λ h1 steps stands. subst (λ (b : Bool). IfSome mid (λ ys. FaultAnswers b (effect_of b h1) (over_of c.events) new ys fault left)) same (answers h1 (records_of steps) stands)) (λ h1 steps stands. tt)) where
        go : (fault : Fault) (o : Option (List ℕ)) → IfSome o (λ xs. BlockFaultGives ignores place h before r xs nothing_written fault left) → IfSome o (λ xs. FaultGives ignores place h before r xs (file_fault_of fault) left)
        go fault None gives = tt
        go (f.Refused file line why) (Some xs) gives = gives
        go (f.Read file) (Some xs) gives = gives
        go f.NoMemory (Some xs) gives = tt

  pub told_started : (mid last : Reading) (held : HeldFile) (xs : List ℕ) (rest after : Option (List ℕ)) (result : Result (Feed C) FileFault)
      → (result ≡ Err t.Start → ⊥) → mid ≡ fresh_reading r → Starts held rest → held ≡ Holds xs → (IsErrOf result t.Read → last.ahead ≡ [])
      → IfSome (left_of mid rest) (λ xs. StartedGives Stands ignores place h before mid xs result last (left_of last after))
      → FileGives Stands ignores place h before r xs result last after
  told_started mid last held xs rest after (Ok c) started is starts holds emptied gives =
      whole_end ignores place h before (fresh_reading r) last xs (StandsBehind Stands c) after
      (told (λ m ys. ComesToEnd ignores place h before m ys (StandsBehind Stands c) last (left_of last after)) r mid held xs rest is starts holds gives)
  told_started mid last held xs rest after (Err (t.Refused line why)) started is starts holds emptied gives =
      told (λ m ys. HasFault ignores place h before m ys nothing_written (record { line = line; why = why })) r mid held xs rest is starts holds gives
  told_started mid last held xs rest after (Err t.Start) started is starts holds emptied gives = tt
  told_started mid last held xs rest after (Err t.Read) started is starts holds emptied gives =
      whole_break ignores place h before (fresh_reading r) last xs nothing_written after (emptied refl)
      (told (λ m ys. IsBroken ignores place h before m ys nothing_written (left_of last after)) r mid held xs rest is starts holds gives)
  told_started mid last held xs rest after (Err t.NoMemory) started is starts holds emptied gives = tt

-- ---- which faults come
faulted_not_start : (fault : Fault) → file_fault_of fault ≡ t.Start → ⊥
faulted_not_start (f.Refused file line why) e = cc (e)
faulted_not_start (f.Read file) e = cc (e)
faulted_not_start f.NoMemory e = cc (e)

pub faulted_started : (fault : Fault) (own : FileFault) → own ≡ file_fault_of fault → own ≡ t.Start → ⊥
faulted_started fault own is e = faulted_not_start fault (sym is ∙ e)

read_of : (fault : Fault) → file_fault_of fault ≡ t.Read → (file : ℕ) × (fault ≡ f.Read file)
read_of (f.Refused file line why) e = absurd (cc (e))
read_of (f.Read file) e = (file, refl)
read_of f.NoMemory e = absurd (cc (e))

pub faulted_read : (fault : Fault) (own : FileFault) → own ≡ file_fault_of fault → own ≡ t.Read → (file : ℕ) × (fault ≡ f.Read file)
faulted_read fault own is e = read_of fault (sym is ∙ e)

pub same_fault : {A : Type 0} (a b : FileFault) (r : Result A FileFault) → r ≡ Err a → r ≡ Err b → a ≡ b
same_fault a b r first more = let e = sym first ∙ more in cc (e)
