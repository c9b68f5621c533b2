-- What two engines say together is what both lists of samples say.
use Rattle.std.specs.Prelude.{◌≡◌, ◌↔◌, ◌<◌, ◌++◌, IsTrue, List, length}
use Rattle.std.specs.List.Sorted.{IsPermutation}
use Rattle.dk_base.specs.declared.kinds.VarId.{VarId}
use Rattle.dk_base.specs.declared.kinds.VarInfo.{VarInfo}
use Rattle.dk_base.specs.declared.values.Value.{Value}
use Rattle.dk_classes.specs.Classes.{kind_at, var_kinds}
use Rattle.dk_instances.specs.Fits.{fit}
use Rattle.dk_presence.specs.Patterns.{count_of}
use Rattle.dk_samples.specs.Samples.{Agree}
use Rattle.dk_template.specs.Admitted.{admits}
use Rattle.dk_template.specs.Premises.{AreThere}
use Rattle.dk_template.specs.Templates.{IsRowOf}
use Rattle.dk_template.specs.declared.grammar.Grammar.{Grammar}
use Rattle.dk_template.specs.declared.grammar.RowId.{RowId}
use Rattle.dk_engine.specs.Exact.{AreOfPoint, AreSamples, IsKeptOf}
use Rattle.dk_engine.specs.Saved.{parts_of}
use Rattle.dk_engine.specs.declared.kept.Kept.{Kept}
use Rattle.dk_engine.specs.declared.saved.parts.Parts.{Parts}
use Rattle.dk_join.specs.Joined.{AreJoinedParts, IsJoinOf}
use Rattle.dk_join.specs.Joining.{agree_joined, count_joined, read_joined}

-- what is kept of two lists of samples of the same variables
pub record AreKeptOf (grammar : Grammar) (infos : List VarInfo) (samples others : List (List Value)) (first second : Kept) : Type 0 where
  pub first_samples : AreSamples infos samples
  pub second_samples : AreSamples infos others
  pub first_kept : IsKeptOf grammar infos samples first
  pub second_kept : IsKeptOf grammar infos others second

-- a statement of that
abbrev pub OfBoth : (Grammar → List VarInfo → List (List Value) → Kept → Kept → Type 0) → Type 0
OfBoth P =
    (grammar : Grammar) (infos : List VarInfo) → AreOfPoint infos → (samples others : List (List Value)) (first second : Kept)
    → AreKeptOf grammar infos samples others first second → P grammar infos (samples ++ others) first second

-- the state of each row over variables that it admits
abbrev pub ReadJoinedIsFit : Type 0
ReadJoinedIsFit = OfBoth (λ grammar infos all first second. (row : RowId)
    → IsRowOf grammar row → (vars : List VarId) → IsTrue (admits row infos vars)
    → read_joined first second row vars ≡ fit row vars all)

-- the counts
abbrev pub CountJoinedIsCount : Type 0
CountJoinedIsCount = OfBoth (λ grammar infos all first second. (vars : List VarId)
    → AreThere infos vars → count_joined first second vars ≡ count_of vars all)

-- agreement
abbrev pub AgreeJoinedIsAgreement : Type 0
AgreeJoinedIsAgreement = OfBoth (λ grammar infos all first second. (v w : VarId) → v.0 < length infos → w.0 < length infos
    → IsTrue (agree_joined first second v w) ↔ ((kind_at (var_kinds infos) v.0 ≡ kind_at (var_kinds infos) w.0) × Agree all v w))

-- all parts, where both lists have samples
abbrev pub JoinedPartsAreExact : Type 0
JoinedPartsAreExact = OfBoth (λ grammar infos all first second. 0 < first.samples
    → 0 < second.samples → (kept : Kept) → IsJoinOf grammar infos first second kept
    → IsKeptOf grammar infos all kept)

-- two engines have one join
abbrev pub JoinedPartsAreDetermined : Type 0
JoinedPartsAreDetermined =
    (grammar : Grammar) (infos : List VarInfo) (first second : Kept) (parts others : Parts)
    → AreJoinedParts grammar infos first second parts → AreJoinedParts grammar infos first second others
    → parts ≡ others

-- ---- several engines
-- what `join` makes of two engines' parts: the joined ones, which stand for both lists wherever these two stand for lists
pub record IsJoined (grammar : Grammar) (infos : List VarInfo) (first second kept : Kept) : Type 0 where
  pub parts : AreJoinedParts grammar infos first second (parts_of kept)
  pub stands : (samples others : List (List Value))
      → AreKeptOf grammar infos samples others first second → IsKeptOf grammar infos (samples ++ others) kept

-- how several engines are joined: one alone, which stands for samples, or two groups, and what each keeps
pub data Joins : Type 0 where
  Alone : (samples : List (List Value)) → (kept : Kept) → Joins
  Together : (first : Joins) → (second : Joins) → (kept : Kept) → Joins

abbrev pub kept_by : Joins → Kept
kept_by (Alone samples kept) = kept
kept_by (Together first second kept) = kept

-- the samples of all, in the order in which they are joined
abbrev pub all_samples : Joins → List (List Value)
all_samples (Alone samples kept) = samples
all_samples (Together first second kept) = all_samples first ++ all_samples second

abbrev pub AreJoins : Grammar → List VarInfo → Joins → Type 0
AreJoins grammar infos (Alone samples kept) = AreSamples infos samples × IsKeptOf grammar infos samples kept
AreJoins grammar infos (Together first second kept) =
    AreJoins grammar infos first × AreJoins grammar infos second × IsJoined grammar infos (kept_by first) (kept_by second) kept

-- engines that are joined in any order and in any groups make the same parts
abbrev pub OrderOfJoinsDoesNotMatter : Type 0
OrderOfJoinsDoesNotMatter =
    (grammar : Grammar) (infos : List VarInfo) (joins others : Joins) → AreJoins grammar infos joins → AreJoins grammar infos others
    → IsPermutation (all_samples joins) (all_samples others) → parts_of (kept_by joins) ≡ parts_of (kept_by others)
