-- The variables of the points that are followed, and what the next block tells.
use Rattle.std.proofs.Common.{◌≡◌, ◌∙◌, ◌<◌, ◌≤◌, ◌++◌, ◌⊎◌, ⊎_elim, ℕ, zero, suc, Bool, List, [], ◌∷◌, length, get_or, slice_get, Option, Some, None, Result, Ok, Err, IfSome, ap, arith, inl, inr, refl, subst, sym}
use Rattle.std.specs.Borrow.{Bor}
use Rattle.dk_base.specs.Reading.{LineFault}
use Rattle.dk_base.specs.Values.{values_of}
use Rattle.dk_base.specs.declared.faults.Fault.{Fault}
use Rattle.dk_base.specs.declared.kinds.PointId.{PointId}
use Rattle.dk_base.specs.declared.kinds.VarInfo.{VarInfo}
use Rattle.dk_base.specs.declared.values.View.{View}
use Rattle.dk_derive.specs.Laws.{all_vars_of}
use Rattle.dk_derive.specs.Values.{values_by_form}
use Rattle.dk_lines.specs.Reading.{Reading}
use Rattle.dk_points.specs.Table.{Point}
use Rattle.dk_points.specs.declared.declared.Declared.{Declared}
use Rattle.dk_points.specs.declared.declared.Declared.TheVariants.{New, Same}
use Rattle.dk_blocks.proofs.Growing.{more_points, same_all_vars}
use Rattle.dk_blocks.proofs.Stepping.{refused_behind}
use Rattle.dk_blocks.specs.Finding.{outcome_of}
use Rattle.dk_blocks.specs.Fitting.{Extends}
use Rattle.dk_blocks.specs.History.{Effect, History, Samples, Taken, declared_effect, effect_of}
use Rattle.dk_blocks.specs.Standing.{ReaderStandsFor, Stands, over_of as over_in, points_of as points_in}
use Rattle.dk_blocks.specs.Steps.{DeclareGives, NextBlock, RefusedAs, Steps}
use Rattle.dk_blocks.specs.declared.found.Found.{Found}
use Rattle.dk_blocks.specs.declared.found.Found.TheVariants as found
use Rattle.dk_blocks.specs.declared.reader.Reader.{Reader}
use Rattle.dk_events.specs.Following.{AreVarsOf, AreVarsOfFirst, Following}
use Rattle.dk_events.specs.Standing.{EventsStandFor, NextEvent, TakenAs, over_of, points_of}
use Rattle.dk_events.specs.Telling.{effect_told, with_derived_values}
use Rattle.dk_events.specs.declared.event.Event.{Event}

get_within : {X : Type 0} (xs : List X) (i : ℕ) (x : X) → slice_get xs i ≡ Some x → i < length xs
get_within [] i x at = absurd (cc at)
get_within (y ∷ xs) zero x at = omega arith
get_within (y ∷ xs) (suc i) x at = let more = get_within xs i x at in omega (arith, more)

get_last : {X : Type 0} (xs : List X) (y : X) (i : ℕ) (x : X) → slice_get (xs ++ y ∷ []) i ≡ Some x → (slice_get xs i ≡ Some x) ⊎ ((i ≡ length xs) × (y ≡ x))
get_last [] y zero x at = inr (refl, cc at)
get_last [] y (suc i) x at = absurd (cc at)
get_last (z ∷ xs) y zero x at = inl at
get_last (z ∷ xs) y (suc i) x at = ⊎_elim (λ h. inl h) (λ h. inr (ap suc h.0, h.1)) (get_last xs y i x at)

pub got : {X : Type 0} (xs : List X) (i : ℕ) (x : X) → i < length xs → x ≡ get_or xs i x → slice_get xs i ≡ Some x
got [] i x there is = absurd (omega arith)
got (y ∷ xs) zero x there is = ap (λ z. Some z) (sym is)
got (y ∷ xs) (suc i) x there is = got xs i x (omega arith) is

-- one point more has variables here
pub one_more : (ps : List Point) (vars : List (List VarInfo)) (own : List VarInfo) (place : ℕ) → AreVarsOfFirst ps vars → length vars ≡ place → own ≡ all_vars_of ps place → AreVarsOfFirst ps (vars ++ own ∷ [])
one_more ps vars own place first many is = λ i x at. ⊎_elim
    (λ h. first i x h)
    (λ h. sym h.1 ∙ is ∙ ap (all_vars_of ps) (sym (h.0 ∙ many)))
    (get_last vars own i x at)

-- the table has grown
pub first_still : (ps ps' : List Point) (vars : List (List VarInfo)) → Extends ps ps' → AreVarsOf ps vars → AreVarsOfFirst ps' vars
first_still ps ps' vars extends are = λ i own at.
    let within = get_within vars i own at in
    are.each i own at ∙ sym (same_all_vars ps ps' i extends (omega (arith, within, are.long)))

pub few_still : (ps ps' : List Point) (vars : List (List VarInfo)) → Extends ps ps' → AreVarsOf ps vars → length vars ≤ length ps'
few_still ps ps' vars extends are = let most = more_points ps ps' extends in omega (arith, most, are.long)

-- ---- what the next block tells

table_of : (r : Reader) (h : History) → ReaderStandsFor r h → points_in r ≡ h.table
unfolding Stands
table_of r h stands = stands.table

-- a block that is taken
pub told_taken : (f f' : Following) (reader : Reader) (h : History) (r new : Reading) (o left : Option (List ℕ)) (found : Found) (e : Event) → over_of f' ≡ over_in reader
    → ((h1 : History) → ReaderStandsFor reader h1 → TakenAs (Ok (f', e)) (outcome_of h1 (Some found)))
    → IfSome o (λ xs. NextBlock f.ignores f.reader h r xs (Ok (reader, Some found)) new left) → IfSome o (λ xs. NextEvent f h r xs (Ok (f', Some e)) new left)
told_taken f f' reader h r new None left found e over takes gives = tt
told_taken f f' reader h r new (Some xs) left found e over takes (h1, stands, (ys, at, steps)) =
    let t = takes h1 stands in (
      t.0,
      t.1,
      (
        t.2.0,
        t.2.1,
        (
          ys,
          at,
          subst (λ (b : Bool). Steps f.ignores (effect_of f.ignores h) (over_of f) r xs (Ok (record { history = t.0; effect = t.2.0 })) b new ys) (sym over)
              (subst (λ (outcome : Result Taken LineFault). Steps f.ignores (effect_of f.ignores h) (over_of f) r xs outcome (over_in reader) new ys) t.2.2 steps),
        ),
      ),
    )

-- one that is refused
pub told_refused : (f : Following) (reader : Reader) (h : History) (r new : Reading) (o left : Option (List ℕ)) (found : Found) (fault : Fault)
    → ((h1 : History) → ReaderStandsFor reader h1 → RefusedAs fault (outcome_of h1 (Some found)))
    → IfSome o (λ xs. NextBlock f.ignores f.reader h r xs (Ok (reader, Some found)) new left) → IfSome o (λ xs. NextEvent f h r xs (Err fault) new left)
told_refused f reader h r new None left found fault refuses gives = tt
told_refused f reader h r new (Some xs) left found fault refuses gives = refused_behind f.ignores f.reader reader h r new xs left (Some found) fault refuses gives

-- no block
pub told_none : (f : Following) (reader : Reader) (h : History) (r new : Reading) (o left : Option (List ℕ))
    → IfSome o (λ xs. NextBlock f.ignores f.reader h r xs (Ok (reader, None)) new left) → IfSome o (λ xs. NextEvent f h r xs (Ok (record f { reader = reader }, None)) new left)
told_none f reader h r new None left gives = tt
told_none f reader h r new (Some xs) left (h1, stands, (ys, at, steps)) = (h1, stands, (None, refl, (ys, at, steps)))

-- a fault is the reader's
pub told_fault : (f : Following) (h : History) (r new : Reading) (o left : Option (List ℕ)) (fault : Fault)
    → IfSome o (λ xs. NextBlock f.ignores f.reader h r xs (Err fault) new left) → IfSome o (λ xs. NextEvent f h r xs (Err fault) new left)
told_fault f h r new None left fault gives = tt
told_fault f h r new (Some xs) left fault gives = gives

-- ---- what is taken

pub sample_taken : (f : Following) (h : History) (point : PointId) (line : ℕ) (values : Bor (List View)) (vars : List VarInfo) (e : Event) → EventsStandFor f h
    → vars ≡ all_vars_of (points_of f) point.0 → effect_told e ≡ Samples point.0 line (values_by_form vars (values_of values.now)) → TakenAs (Ok (f, e)) (outcome_of h (Some (found.Sample point line values)))
sample_taken f h point line values vars e stands own is = (
  h,
  stands,
  (
    Some (Samples point.0 line (values_of values.now)),
    ap (λ (x : Effect). Some x) (is ∙ ap (λ (vs : List VarInfo). Samples point.0 line (values_by_form vs (values_of values.now))) (own ∙ ap (λ (ps : List Point). all_vars_of ps point.0) (table_of f.reader h stands))),
    refl,
  ),
)

-- what a declaration does has no values
no_values : (ps : List Point) (x : Declared) → declared_effect x ≡ with_derived_values ps (declared_effect x)
no_values ps (New p) = refl
no_values ps (Same p) = refl

pub declaration_taken : (f : Following) (x : Declared) (e : Event) (outcome : Result Taken LineFault) → effect_told e ≡ declared_effect x → DeclareGives (Ok (f.reader, x)) outcome → TakenAs (Ok (f, e)) outcome
declaration_taken f x e outcome is (h, stands, comes) = (h, stands, (Some (declared_effect x), ap (λ (y : Effect). Some y) (is ∙ no_values h.table x), comes))
