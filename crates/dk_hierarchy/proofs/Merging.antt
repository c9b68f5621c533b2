-- What engines say through ways is what the samples say that the ways bring.
use Rattle.std.specs.Prelude.{◌≡◌, ◌↔◌, ◌<◌, ◌+◌, ◌*◌, ◌==◌, ◌++◌, ℕ, zero, suc, Bool, true, false, ◌&&◌, All, IsTrue, List, [], ◌∷◌, cond, count_by, length, map, refl, sum_by, Option, Some, None}
use Rattle.std.specs.List.{list_all}
use Rattle.std.specs.Option.{option_map_or}
use Rattle.std.proofs.Common.{◌∙◌, ap, arith, get_or, subst, sym}
use Rattle.std.proofs.lemmas.Bool.{and_from, and_parts, eq-eqb, eqb-true, false≢true}
use Rattle.std.proofs.lemmas.List.{append-nil, append_assoc}
use Rattle.std.proofs.lemmas.List.Elements.{All-append, All-cons, All-head, All-nil, All-tail}
use Rattle.std.proofs.lemmas.List.Sums.{sum_by-cons}
use Rattle.std.proofs.lemmas.Option.{slice_get-get_or}
use Rattle.dk_base.specs.declared.kinds.Kind.{Kind}
use Rattle.dk_base.specs.declared.kinds.Kind.TheVariants as kind
use Rattle.dk_base.specs.declared.kinds.VarId.{VarId}
use Rattle.dk_base.specs.declared.values.Value.{Value}
use Rattle.dk_base.specs.declared.values.Value.TheVariants as value
use Rattle.dk_classes.specs.Classes.{kind_at, var_kinds}
use Rattle.dk_engine.proofs.Readings.{agreement_read, counts_read, read_fits, row_is}
use Rattle.dk_engine.specs.Reading.{count_read, state_read}
use Rattle.dk_engine.specs.Reading.Levels.{Whole}
use Rattle.dk_forms.specs.declared.states.State.TheVariants.{Empty}
use Rattle.dk_instances.proofs.Fitting.{count_of_both, fit_of_both, fit_of_none, fit_of_set}
use Rattle.dk_instances.proofs.Whole.{kind_alike}
use Rattle.dk_instances.specs.Fits.{fit}
use Rattle.dk_presence.specs.Patterns.{capped, count_of}
use Rattle.dk_samples.specs.Samples.{Agree, is_present, value_in}
use Rattle.dk_template.specs.Admitted.{admits, same_kind}
use Rattle.dk_template.specs.Joins.{joined}
use Rattle.dk_template.specs.Templates.{IsRowOf, form_of}
use Rattle.dk_template.specs.declared.grammar.RowId.{RowId}
use Rattle.dk_hierarchy.proofs.Edges.{counts, fits_through, of_partner, value-through}
use Rattle.dk_hierarchy.proofs.Partners.{partner_kind, partner_there, partners_admitted, partners_there}
use Rattle.dk_hierarchy.proofs.Telling.{Samples, count_repeated, from_repeated, in_repeated}
use Rattle.dk_hierarchy.specs.Edges.{partner_at, partners_at}
use Rattle.dk_hierarchy.specs.Merging.{AreWays, IsWay, Joint, agree_through, count_through, engine_at, merged_agree, merged_count, merged_state, partners_agree, same_kinds, state_through, states_joined}
use Rattle.dk_hierarchy.specs.Samples.{mapped_sample}
use Rattle.dk_hierarchy.specs.Standing.{EngineStandsFor, EnginesStandFor, JointStandsFor, MergedStandForWhatIsBrought}
use Rattle.dk_hierarchy.specs.Ways.{repeated_samples, samples_through, samples_through_all}
use Rattle.dk_hierarchy.specs.declared.way.Way.{Way}

-- ---- through an option
through_same : {A B : Type 0} (f g : A → B) (o : Option A) (d : B) → ((x : A) → o ≡ Some x → f x ≡ g x) → option_map_or f o d ≡ option_map_or g o d
through_same f g None d same = refl
through_same f g (Some x) d same = same x refl

-- ---- all of mapped samples
all_mapped : (f : List Value → List Value) (P : List Value → Type 0) (samples : Samples) → All P (map f samples) ↔ All (λ s. P (f s)) samples
all_mapped f P [] = (λ h. All-nil (λ s. P (f s)), λ h. All-nil P)
all_mapped f P (s ∷ samples) =
    let rest = all_mapped f P samples in (
      λ h. All-cons (λ s. P (f s)) s samples (All-head P (f s) (map f samples) h) (rest.0 (All-tail P (f s) (map f samples) h)),
      λ h. All-cons P (f s) (map f samples) (All-head (λ s. P (f s)) s samples h) (rest.1 (All-tail (λ s. P (f s)) s samples h)),
    )

all_both : (P : List Value → Type 0) (a b : Samples) → All P (a ++ b) ↔ (All P a × All P b)
all_both P [] b = (λ h. (All-nil P, h), λ h. h.1)
all_both P (s ∷ a) b =
    let rest = all_both P a b in (
      λ h. let r = rest.0 (All-tail P s (a ++ b) h) in (All-cons P s a (All-head P s (a ++ b) h) r.0, r.1),
      λ h. All-append P (s ∷ a) b h.0 h.1,
    )

all_repeated : (n : ℕ) → 0 < n → (P : List Value → Type 0) (a : Samples) → All P (repeated_samples n a) ↔ All P a
unfolding repeated_samples
all_repeated zero some P a = absurd (omega (arith, some))
all_repeated (suc zero) some P a = (λ h. ((all_both P a []).0 h).0, λ h. (all_both P a []).1 (h, All-nil P))
all_repeated (suc (suc n)) some P a =
    let rest = all_repeated (suc n) (omega arith) P a in
    (λ h. ((all_both P a (repeated_samples (suc n) a)).0 h).0, λ h. (all_both P a (repeated_samples (suc n) a)).1 (h, rest.1 h))

-- ---- never present
missing : (x : Value) → is_present x ≡ false → x ≡ value.Missing
missing value.Missing e = refl
missing _ e = absurd (cc)

module _ (v : VarId) where
  abbrev is_there : List Value → Bool
  is_there s = is_present (value_in s v) && true

  abbrev IsMissing : List Value → Type 0
  IsMissing s = value_in s v ≡ value.Missing

  none_there : (samples : Samples) → (count_by is_there samples ≡ 0) ↔ All IsMissing samples
  none_there [] = (λ h. All-nil IsMissing, λ h. refl)
  none_there (s ∷ samples) = go (is_present (value_in s v)) refl (none_there samples)
    where
      go : (b : Bool) → is_present (value_in s v) ≡ b → ((count_by is_there samples ≡ 0) ↔ All IsMissing samples) → (count_by is_there (s ∷ samples) ≡ 0) ↔ All IsMissing (s ∷ samples)
      go true e rest =
          let one = sum_by-cons (λ t. cond (is_there t) 1 0) s samples in
          let here : cond (is_there s) 1 0 ≡ 1 = ap {B = ℕ} (λ b. cond (b && true) 1 0) e in
          (λ h. absurd (omega (arith, one, here, h)), λ h. absurd (false≢true (sym (ap is_present (All-head IsMissing s samples h)) ∙ e)))
      go false e rest =
          let one = sum_by-cons (λ t. cond (is_there t) 1 0) s samples in
          let here : cond (is_there s) 1 0 ≡ 0 = ap {B = ℕ} (λ b. cond (b && true) 1 0) e in (
            λ h. All-cons IsMissing s samples (missing (value_in s v) e) (rest.0 (omega (arith, one, here, h))),
            λ h. let others = rest.1 (All-tail IsMissing s samples h) in omega (arith, one, here, others),
          )

  never_present : (samples : Samples) → (count_of (v ∷ []) samples ≡ 0) ↔ All IsMissing samples
  never_present samples = (λ h. (none_there samples).0 (omega (arith, h)), λ h. let none = (none_there samples).1 h in omega (arith, none))

module _ (joint : Joint) (are : AreWays joint) (samples : ℕ → Samples) (stand : EnginesStandFor joint.engines samples) where
  -- ---- through one way
  module _ (way : Way) (is : IsWay joint way) (some : 0 < way.paths) where
    abbrev there : Samples
    there = samples way.point.0

    abbrev engine : Whole
    engine = engine_at joint way

    abbrev once : Samples
    once = map (mapped_sample way.partners) there

    stands : EngineStandsFor engine there
    stands = stand way.point.0 engine (slice_get-get_or joint.engines way.point.0 joint.here is.within)

    fits_once : (row : RowId) → IsRowOf joint.here.grammar row → (vars : List VarId) → fit row vars (samples_through samples way) ≡ fit row vars once
    fits_once row of vars = fit_of_set row (row_is joint.here.grammar row of) vars (repeated_samples way.paths once) once (record {
      to = λ x i. from_repeated way.paths once x i;
      from = λ x i. in_repeated way.paths once x some i;
    })

    state_brought : (row : RowId) → IsRowOf joint.here.grammar row → (vars : List VarId) → IsTrue (admits row joint.here.infos vars) → state_through joint row vars way ≡ fit row vars (samples_through samples way)
    state_brought row of vars admitted =
        through_same (state_read engine.kept row) (λ ws. fit row ws there) (partners_at way.partners vars) Empty
        (λ ws e. read_fits engine.grammar engine.infos stands.variables there stands.samples_are engine.kept stands.kept_is row (subst (λ g. IsRowOf g row) (sym is.grammar) of) ws
        (partners_admitted joint.here.infos engine.infos way.partners is.partners row vars ws e admitted))
        ∙ (sym (fits_through row (row_is joint.here.grammar row of) way.partners vars there) ∙ sym (fits_once row of vars))

    count_brought : (vars : List VarId) → capped (count_through joint vars way) ≡ count_of vars (samples_through samples way)
    count_brought vars =
        ap (λ n. capped (n * way.paths))
        (through_same (count_read engine.kept) (λ ws. count_of ws there) (partners_at way.partners vars) 0
        (λ ws e. counts_read engine.grammar engine.infos stands.variables there stands.samples_are engine.kept stands.kept_is ws (partners_there joint.here.infos engine.infos way.partners is.partners vars ws e))
        ∙ sym (counts way.partners vars there))
        ∙ (ap capped (times (count_of vars once) way.paths) ∙ sym (count_repeated way.paths vars once))
      where
        times : (a b : ℕ) → a * b ≡ b * a
        times a b = omega arith

    never_read : (v : VarId) → v.0 < length engine.infos → IsTrue (count_read engine.kept (v ∷ []) == 0) ↔ All (λ s. value_in s v ≡ value.Missing) there
    never_read v within =
        let read_is = counts_read engine.grammar engine.infos stands.variables there stands.samples_are engine.kept stands.kept_is (v ∷ []) (All-cons (λ (w : VarId). w.0 < length engine.infos) v [] within (All-nil (λ (w : VarId). w.0 < length engine.infos))) in (
          λ h. (never_present v there).0 (sym read_is ∙ eqb-true (count_read engine.kept (v ∷ [])) 0 h),
          λ h. eq-eqb (count_read engine.kept (v ∷ [])) 0 (read_is ∙ (never_present v there).1 h),
        )

    -- two variables of one kind, by their partners
    module _ (v w : VarId) (kinds : kind_at (var_kinds joint.here.infos) v.0 ≡ kind_at (var_kinds joint.here.infos) w.0) where
      abbrev AgreeBy : Option VarId → Option VarId → Type 0
      AgreeBy a b = All (λ s. of_partner s a ≡ of_partner s b) there

      by_partners : (a b : Option VarId) → partner_at way.partners v ≡ a → partner_at way.partners w ≡ b → IsTrue (partners_agree engine.kept a b) ↔ AgreeBy a b
      by_partners None None first second = (λ h k d l. refl, λ h. refl)
      by_partners (Some a) None first second = never_read a (partner_there joint.here.infos engine.infos way.partners is.partners v a first)
      by_partners None (Some b) first second =
          let never = never_read b (partner_there joint.here.infos engine.infos way.partners is.partners w b second) in
          (λ h k d l. sym (never.0 h k d l), λ h. never.1 (λ k d l. sym (h k d l)))
      by_partners (Some a) (Some b) first second =
          let agreement = agreement_read engine.grammar engine.infos stands.variables there stands.samples_are engine.kept stands.kept_is a b
          (partner_there joint.here.infos engine.infos way.partners is.partners v a first) (partner_there joint.here.infos engine.infos way.partners is.partners w b second) in
          let same = sym (partner_kind joint.here.infos engine.infos way.partners is.partners v a first) ∙ (kinds ∙ partner_kind joint.here.infos engine.infos way.partners is.partners w b second) in
          (λ h. (agreement.0 h).1, λ h. agreement.1 (same, h))

      agree_once : Agree once v w ↔ AgreeBy (partner_at way.partners v) (partner_at way.partners w)
      agree_once =
          let here = all_mapped (mapped_sample way.partners) (λ s. value_in s v ≡ value_in s w) there in (
            λ h k d l. sym (value-through way.partners (get_or there k d) v) ∙ (here.0 h k d l ∙ value-through way.partners (get_or there k d) w),
            λ h. here.1 (λ k d l. value-through way.partners (get_or there k d) v ∙ (h k d l ∙ sym (value-through way.partners (get_or there k d) w))),
          )

      agree_brought : IsTrue (agree_through joint v w way) ↔ Agree (samples_through samples way) v w
      agree_brought =
          let by = by_partners (partner_at way.partners v) (partner_at way.partners w) refl refl in
          let times = all_repeated way.paths some (λ s. value_in s v ≡ value_in s w) once in
          (λ h. times.1 (agree_once.1 (by.0 h)), λ h. by.1 (agree_once.0 (times.0 h)))

  -- ---- through all ways
  abbrev IsSome : Way → Type 0
  IsSome way = 0 < way.paths

  states_brought : (row : RowId) → IsRowOf joint.here.grammar row → (vars : List VarId) → IsTrue (admits row joint.here.infos vars) → (done : Samples) (ways : List Way) → All (IsWay joint) ways → All IsSome ways
      → states_joined joint row vars (fit row vars done) ways ≡ fit row vars (done ++ samples_through_all samples ways)
  states_brought row of vars admitted done [] all some = ap (fit row vars) (sym (append-nil done))
  states_brought row of vars admitted done (way ∷ ways) all some =
      let one = state_brought way (All-head (IsWay joint) way ways all) (All-head IsSome way ways some) row of vars admitted in
      ap (λ s. states_joined joint row vars s ways)
      (ap (joined (form_of row) (fit row vars done)) one ∙ sym (fit_of_both row (row_is joint.here.grammar row of) vars done (samples_through samples way)))
      ∙ (states_brought row of vars admitted (done ++ samples_through samples way) ways (All-tail (IsWay joint) way ways all) (All-tail IsSome way ways some)
      ∙ ap (fit row vars) (append_assoc done (samples_through samples way) (samples_through_all samples ways)))

  counts_brought : (vars : List VarId) (ways : List Way) → All (IsWay joint) ways → All IsSome ways → capped (sum_by (count_through joint vars) ways) ≡ count_of vars (samples_through_all samples ways)
  counts_brought vars [] all some = refl
  counts_brought vars (way ∷ ways) all some =
      ap capped (sum_by-cons (count_through joint vars) way ways)
      ∙ (ends (count_through joint vars way) (sum_by (count_through joint vars) ways)
      ∙ (ap (λ n. capped (n + capped (sum_by (count_through joint vars) ways))) (count_brought way (All-head (IsWay joint) way ways all) (All-head IsSome way ways some) vars)
      ∙ (ap (λ n. capped (count_of vars (samples_through samples way) + n)) (counts_brought vars ways (All-tail (IsWay joint) way ways all) (All-tail IsSome way ways some))
      ∙ sym (count_of_both vars (samples_through samples way) (samples_through_all samples ways)))))
    where
      ends : (a b : ℕ) → capped (a + b) ≡ capped (capped a + capped b)
      ends a b = omega arith

  agree_all_brought : (v w : VarId) → kind_at (var_kinds joint.here.infos) v.0 ≡ kind_at (var_kinds joint.here.infos) w.0 → (ways : List Way) → All (IsWay joint) ways → All IsSome ways
      → IsTrue (list_all (agree_through joint v w) ways) ↔ Agree (samples_through_all samples ways) v w
  agree_all_brought v w kinds [] all some = (λ h. All-nil (λ s. value_in s v ≡ value_in s w), λ h. refl)
  agree_all_brought v w kinds (way ∷ ways) all some =
      let one = agree_brought way (All-head (IsWay joint) way ways all) (All-head IsSome way ways some) v w kinds in
      let rest = agree_all_brought v w kinds ways (All-tail (IsWay joint) way ways all) (All-tail IsSome way ways some) in
      let parts = all_both (λ s. value_in s v ≡ value_in s w) (samples_through samples way) (samples_through_all samples ways) in (
        λ h. let hs = and_parts (agree_through joint v w way) (list_all (agree_through joint v w) ways) h in parts.1 (one.0 hs.0, rest.0 hs.1),
        λ h. let hs = parts.0 h in and_from (agree_through joint v w way) (list_all (agree_through joint v w) ways) (one.1 hs.0) (rest.1 hs.1),
      )

  kinds_tested : (k l : Kind) → k ≡ l → same_kind k l ≡ true
  kinds_tested k l e = subst (λ m. same_kind k m ≡ true) e (itself k)
    where
      itself : (k : Kind) → same_kind k k ≡ true
      itself kind.Bool = refl
      itself kind.Int = refl
      itself kind.Hash = refl
      itself kind.Str = refl
      itself kind.BoolSeq = refl
      itself kind.IntSeq = refl
      itself kind.HashSeq = refl
      itself kind.StrSeq = refl

  pub merged_stands : All IsSome joint.ways → JointStandsFor joint (samples_through_all samples joint.ways)
  unfolding merged_state merged_count merged_agree
  merged_stands some = record {
    state = λ row of vars admitted. ap (λ s. states_joined joint row vars s joint.ways) (sym (fit_of_none row (row_is joint.here.grammar row of) vars)) ∙ states_brought row of vars admitted [] joint.ways are some;
    count = λ vars there. counts_brought vars joint.ways are some;
    agree = λ v w first second. (
      λ h.
          let hs = and_parts (same_kinds joint.here.infos v w) (list_all (agree_through joint v w) joint.ways) h in
          let kinds = kind_alike (kind_at (var_kinds joint.here.infos) v.0) (kind_at (var_kinds joint.here.infos) w.0) hs.0 in
          (kinds, (agree_all_brought v w kinds joint.ways are some).0 hs.1),
      λ h.
          and_from (same_kinds joint.here.infos v w) (list_all (agree_through joint v w) joint.ways)
          (kinds_tested (kind_at (var_kinds joint.here.infos) v.0) (kind_at (var_kinds joint.here.infos) w.0) h.0) ((agree_all_brought v w h.0 joint.ways are some).1 h.1),
    );
  }

pub merged_stand : MergedStandForWhatIsBrought
merged_stand joint are some samples stand = merged_stands joint are samples stand some
