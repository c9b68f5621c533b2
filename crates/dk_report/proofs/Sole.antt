-- Samples that come by one way alone are the own samples of the engine that it leads to.
use Rattle.std.specs.Prelude.{◌≡◌, ◌<◌, ◌==◌, ℕ, zero, suc, true, false, not, All, List, [], ◌∷◌, flat_map, length, map, refl, slice_get, slice_index_or, Option, Some, None, option_and_then, option_map}
use Rattle.std.specs.List.{AllZip}
use Rattle.std.specs.Option.{option_map_or}
use Rattle.std.proofs.Common.{◌∙◌, ap, append-nil, arith, get_or, inl, subst, sym}
use Rattle.std.proofs.lemmas.Bool.{eqb-true, not-false, true≢false}
use Rattle.std.proofs.lemmas.List.{get_or-map, get_or_default, length-map, same_lists}
use Rattle.std.proofs.lemmas.List.Elements.{All-contains, All-head, All-tail}
use Rattle.dk_base.specs.Shapes.{var}
use Rattle.dk_base.specs.Values.{IsOfKind}
use Rattle.dk_base.specs.declared.kinds.VarId.{VarId}
use Rattle.dk_base.specs.declared.kinds.VarInfo.{VarInfo}
use Rattle.dk_base.specs.declared.values.Value.{Value}
use Rattle.dk_base.specs.declared.values.Value.TheVariants as value
use Rattle.dk_engine.specs.Exact.{IsKeptOf}
use Rattle.dk_engine.specs.Reading.Levels.{Whole}
use Rattle.dk_filters.proofs.Asked.{admitted-there}
use Rattle.dk_forms.specs.Laws.{IsIn}
use Rattle.dk_graph.proofs.Places.{some-injective}
use Rattle.dk_hierarchy.proofs.Merging.{merged_stand}
use Rattle.dk_hierarchy.proofs.Partners.{partners_admitted}
use Rattle.dk_hierarchy.specs.Edges.{partners_at}
use Rattle.dk_hierarchy.specs.Merging.{IsWay, Joint, engine_at}
use Rattle.dk_hierarchy.specs.Samples.{mapped_sample}
use Rattle.dk_hierarchy.specs.Standing.{EnginesStandFor, JointStandsFor}
use Rattle.dk_hierarchy.specs.Ways.{repeated_samples, samples_through, samples_through_all}
use Rattle.dk_hierarchy.specs.declared.way.Way.{Way}
use Rattle.dk_instances.proofs.Members.{contained, of_filter}
use Rattle.dk_presence.specs.Patterns.{capped}
use Rattle.dk_samples.specs.Samples.{value_in}
use Rattle.dk_template.specs.Admitted.{admits}
use Rattle.dk_template.specs.declared.grammar.RowId.{RowId}
use Rattle.dk_report.proofs.FlatMaps.{flat_map-filter}
use Rattle.dk_report.specs.Narrowing.{IsSole, brings_samples}

abbrev Samples : Type 0
Samples = List (List Value)

-- ---- items
zip-long : {X Y : Type 0} (R : X → Y → Type 0) (xs : List X) (ys : List Y) → AllZip R xs ys → length xs ≡ length ys
zip-long R [] [] z = refl
zip-long R [] (y ∷ ys) z = absurd z
zip-long R (x ∷ xs) [] z = absurd z
zip-long R (x ∷ xs) (y ∷ ys) z = ap suc (zip-long R xs ys z.1)

pub got-at : {X : Type 0} (xs : List X) (i : ℕ) (x d : X) → slice_get xs i ≡ Some x → slice_index_or xs i d ≡ x
got-at [] i x d at = absurd (cc)
got-at (y ∷ xs) zero x d at = some-injective at
got-at (y ∷ xs) (suc i) x d at = got-at xs i x d at

none-in : (xs : Samples) (n : ℕ) → n ≡ capped (length xs) → n ≡ 0 → xs ≡ []
none-in [] n is nil = refl
none-in (x ∷ xs) n is nil = absurd (omega (arith, is, nil))

repeated-none : (n : ℕ) → repeated_samples n [] ≡ []
unfolding repeated_samples
repeated-none zero = refl
repeated-none (suc n) = repeated-none n

repeated-once : (n : ℕ) (xs : Samples) → n ≡ 1 → repeated_samples n xs ≡ xs
unfolding repeated_samples
repeated-once zero xs e = absurd (omega (arith, e))
repeated-once (suc zero) xs e = append-nil xs
repeated-once (suc (suc n)) xs e = absurd (omega (arith, e))

-- ---- variables that are their own partners
module _ (partners : List (Option VarId)) (own : (v : ℕ) → v < length partners → slice_index_or partners v None ≡ Some (var v)) where
  mapped-own : (s : List Value) → length s ≡ length partners → mapped_sample partners s ≡ s
  mapped-own s long =
      let f : Option VarId → Value = λ partner. option_map_or (value_in s) partner value.Missing in
      let n = length-map partners f in
      same_lists (mapped_sample partners s) s (omega (arith, n, long))
      (λ k d l.
      let m : k < length partners = omega (arith, l, n) in
      let h : k < length s = omega (arith, m, long) in
      get_or-map f partners k None d m ∙ (ap f (own k m) ∙ get_or_default s k value.Missing d h))

  all-own : (xs : Samples) → All (λ s. length s ≡ length partners) xs → map (mapped_sample partners) xs ≡ xs
  all-own [] all = refl
  all-own (s ∷ xs) all =
      let Long : List Value → Type 0 = λ t. length t ≡ length partners in
      ap (λ rest. mapped_sample partners s ∷ rest) (all-own xs (All-tail Long s xs all)) ∙ ap (λ t. t ∷ xs) (mapped-own s (All-head Long s xs all))

  own-partners : (vars : List VarId) → All (λ (v : VarId). v.0 < length partners) vars → partners_at partners vars ≡ Some vars
  own-partners [] all = refl
  own-partners (v ∷ vars) all =
      let Within : VarId → Type 0 = λ w. w.0 < length partners in
      ap (λ (o : Option VarId). option_and_then (λ w. option_map (λ rest. w ∷ rest) (partners_at partners vars)) o) (own v.0 (All-head Within v vars all))
      ∙ ap (λ (o : Option (List VarId)). option_map (λ rest. v ∷ rest) o) (own-partners vars (All-tail Within v vars all))

module _ (joint : Joint) (some : All (λ (way : Way). 0 < way.paths) joint.ways) (samples : ℕ → Samples) (stand : EnginesStandFor joint.engines samples) (engine : Whole) (sole : IsSole joint engine) where
  abbrev way : Way
  way = sole.way

  abbrev point : ℕ
  point = way.point.0

  -- a way whose engine has no samples brings none
  brings-none : (w : Way) → brings_samples joint.engines w ≡ false → samples_through samples w ≡ []
  brings-none w h = by (slice_get joint.engines w.point.0) refl h
    where
      by : (o : Option Whole) → slice_get joint.engines w.point.0 ≡ o → option_map_or (λ (e : Whole). not (e.kept.samples == 0)) o true ≡ false → samples_through samples w ≡ []
      by None at none = absurd (true≢false none)
      by (Some e) at none =
          let nil = eqb-true e.kept.samples 0 (not-false (e.kept.samples == 0) none) in
          let empty = none-in (samples w.point.0) e.kept.samples (stand w.point.0 e at).kept_is.number nil in
          ap (λ (xs : Samples). repeated_samples w.paths (map (mapped_sample w.partners) xs)) empty ∙ repeated-none w.paths

  is-way : IsWay joint way
  is-way =
      let i = of_filter (brings_samples joint.engines) way joint.ways (subst (IsIn way) (sym sole.only) (inl refl)) in
      All-contains (IsWay joint) joint.ways way sole.asked (contained way joint.ways i.0)

  engine-is : engine_at joint way ≡ engine
  engine-is = got-at joint.engines point engine joint.here sole.there

  partners-long : length way.partners ≡ length joint.here.infos
  partners-long = is-way.partners.long

  samples-long : All (λ s. length s ≡ length way.partners) (samples point)
  samples-long k d l =
      let sample = (stand point engine sole.there).samples_are k d l in
      let zipped = zip-long (λ (info : VarInfo) (x : Value). IsOfKind info.kind x) engine.infos (get_or (samples point) k d) sample.kinds in
      let a = partners-long in
      let b = sole.long in
      omega (arith, zipped, a, b)

  brought-is : samples_through_all samples joint.ways ≡ samples point
  brought-is =
      sym (flat_map-filter (samples_through samples) (brings_samples joint.engines) brings-none joint.ways)
      ∙ (ap (flat_map (samples_through samples)) sole.only
      ∙ (append-nil (samples_through samples way)
      ∙ (repeated-once way.paths (map (mapped_sample way.partners) (samples point)) sole.one_path
      ∙ all-own way.partners sole.own (samples point) samples-long)))

  pub stands_for : JointStandsFor joint (samples point)
  stands_for = subst (JointStandsFor joint) brought-is (merged_stand joint sole.asked some samples stand)

  pub kept_is : IsKeptOf joint.here.grammar engine.infos (samples point) engine.kept
  kept_is = subst (λ g. IsKeptOf g engine.infos (samples point) engine.kept) (sym (ap (λ (e : Whole). e.grammar) engine-is) ∙ is-way.grammar) (stand point engine sole.there).kept_is

  pub admitted_too : (row : RowId) (vars : List VarId) → admits row joint.here.infos vars ≡ true → admits row engine.infos vars ≡ true
  admitted_too row vars h =
      let there = admitted-there joint.here.infos row vars h in
      let within : All (λ (v : VarId). v.0 < length way.partners) vars = λ k d l. let t = there k d l in let n = partners-long in omega (arith, t, n) in
      subst (λ (e : Whole). admits row e.infos vars ≡ true) engine-is
      (partners_admitted joint.here.infos (engine_at joint way).infos way.partners is-way.partners row vars vars (own-partners way.partners sole.own vars within) h)
