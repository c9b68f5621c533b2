-- Counts of several variables by an index of the patterns are those of what the engines keep.
use Rattle.std.specs.Prelude.{◌≡◌, ◌<◌, ◌+◌, ◌*◌, ◌++◌, ℕ, true, IfSome, List, [], ◌∷◌, get_or, length, sum_by, take, Option, Some, None, ◌&&◌, if◌then◌else◌}
use Rattle.std.specs.Option.{option_map_or}
use Rattle.std.proofs.Common.{◌∙◌, ap, arith, inl, inr, refl, subst, sym}
use Rattle.std.proofs.lemmas.Bool.{cases_Bool, cases_lt, false≢true}
use Rattle.std.proofs.lemmas.List.{get_or_append_left, get_or_default, get_or_push, length_push, take_more}
use Rattle.std.proofs.lemmas.List.Sums.{sum_by_push}
use Rattle.dk_base.specs.declared.kinds.VarId.{VarId}
use Rattle.dk_bitmaps.specs.Bitmaps.{Indexed, told}
use Rattle.dk_classes.proofs.OwnLeaders.{leads_from_own}
use Rattle.dk_classes.specs.Leaders.{own_leaders}
use Rattle.dk_engine.specs.Reading.{count_read}
use Rattle.dk_engine.specs.Reading.Levels.{Whole}
use Rattle.dk_engine.specs.Reading.Parts.{leader_of, leaders_of}
use Rattle.dk_engine.specs.declared.kept.Kept.{Kept}
use Rattle.dk_hierarchy.specs.Edges.{partners_at}
use Rattle.dk_hierarchy.specs.Merging.{Joint, count_through, engine_at}
use Rattle.dk_hierarchy.specs.declared.way.Way.{Way}
use Rattle.dk_presence.proofs.Refining.{contains-has}
use Rattle.dk_presence.specs.Patterns.{capped, counted_by, has, has_all}
use Rattle.dk_presence.specs.declared.held.Held.{Held}
use Rattle.dk_report.specs.Counting.{AreIndexes, IsIndexOf, brought_together}

-- the index of an engine's patterns by the leaders of its classes
pub index-is : (kept : Kept) (held : List Held) (leaders : List VarId) (index : Indexed) → held ≡ kept.held → leaders ≡ own_leaders kept.leaders
    → index ≡ record { held = held; leaders = leaders } → IsIndexOf kept index
index-is kept held leaders index same led is =
    is ∙ (ap (λ (hs : List Held). let i : Indexed = record { held = hs; leaders = leaders } in i) same ∙ ap (λ (ls : List VarId). let i : Indexed = record { held = kept.held; leaders = ls } in i) led)

-- leaders have themselves as leaders
lead_themselves : (leaders vars : List VarId) → has_all (own_leaders leaders) vars ≡ true → leaders_of leaders vars ≡ vars
lead_themselves leaders [] all = refl
lead_themselves leaders (v ∷ vars) all = elim (cases_Bool (has (own_leaders leaders) v)) as (λ _. leaders_of leaders (v ∷ vars) ≡ v ∷ vars) [
  | inl e ↦
      (let led = leads_from_own leaders v (contains-has (own_leaders leaders) v e) in
      let same : leader_of leaders v ≡ v = ap (λ n. record { 0 = n }) led.1 in
      let others : has_all (own_leaders leaders) vars ≡ true = ap (λ b. b && has_all (own_leaders leaders) vars) (sym e) ∙ all in
      ap (λ w. w ∷ leaders_of leaders vars) same ∙ ap (λ ws. v ∷ ws) (lead_themselves leaders vars others))
  | inr n ↦ absurd (false≢true (ap (λ b. b && has_all (own_leaders leaders) vars) (sym n) ∙ all))
]

-- what an index tells of leaders
pub told-read : (kept : Kept) (index : Indexed) (there : List VarId) → IsIndexOf kept index → IfSome (told index there) (λ n. n ≡ count_read kept there)
told-read kept index there is =
    subst (λ (i : Indexed). IfSome (told i there) (λ n. n ≡ count_read kept there)) (sym is)
    (elim (cases_Bool (has_all (own_leaders kept.leaders) there)) as (λ _. IfSome (told (record { held = kept.held; leaders = own_leaders kept.leaders }) there) (λ n. n ≡ count_read kept there)) [
      | inl e ↦
          subst (λ b. IfSome (if b then Some (counted_by kept.held there) else None) (λ n. n ≡ count_read kept there)) (sym e) (ap (counted_by kept.held) (sym (lead_themselves kept.leaders there e)))
      | inr n ↦ subst (λ b. IfSome (if b then Some (counted_by kept.held there) else None) (λ n. n ≡ count_read kept there)) (sym n) tt
    ])

-- what a way brings of variables with partners
pub brought-there : (kept : Kept) (way : Way) (vars there : List VarId) → partners_at way.partners vars ≡ Some there → count_read kept there * way.paths ≡ brought_together kept way vars
brought-there kept way vars there told = ap (λ (o : Option (List VarId)). option_map_or (count_read kept) o 0 * way.paths) (sym told)

-- of others it brings nothing
pub none-brought : (kept : Kept) (way : Way) (vars : List VarId) → partners_at way.partners vars ≡ None → 0 ≡ capped (brought_together kept way vars)
none-brought kept way vars none =
    let once : option_map_or (count_read kept) (partners_at way.partners vars) 0 ≡ 0 = ap (λ (o : Option (List VarId)). option_map_or (count_read kept) o 0) none in
    let all : brought_together kept way vars ≡ 0 * way.paths = ap (λ n. n * way.paths) once in
    let nothing : 0 * way.paths ≡ 0 = omega arith in
    omega (arith, all, nothing)

-- ---- the ways one after another
-- one index more
pub index-more : (joint : Joint) (indexes : List Indexed) (i : ℕ) (way : Way) (engine : Whole) (index : Indexed) → length indexes ≡ i → way ≡ get_or joint.ways i way → i < length joint.ways
    → engine ≡ engine_at joint way → IsIndexOf engine.kept index → AreIndexes joint indexes → AreIndexes joint (indexes ++ index ∷ [])
index-more joint indexes i way engine index long at within led is are k d w l = elim (cases_lt k i) as (λ _. IsIndexOf (engine_at joint (get_or joint.ways k w)).kept (get_or (indexes ++ index ∷ []) k d)) [
  | inl before ↦
      subst (IsIndexOf (engine_at joint (get_or joint.ways k w)).kept) (sym (get_or_append_left indexes (index ∷ []) d k (omega (arith, before, long)))) (are k d w (omega (arith, before, long)))
  | inr past ↦
      (let here : k ≡ i = omega (arith, past, l, long, length_push indexes index) in
      let same : engine ≡ engine_at joint (get_or joint.ways k w) =
      led ∙ ap (engine_at joint) (at ∙ (get_or_default joint.ways i way w within ∙ ap (λ n. get_or joint.ways n w) (sym here)))
      in
      subst (IsIndexOf (engine_at joint (get_or joint.ways k w)).kept) (sym (get_or_push indexes index d k (long ∙ sym here)))
      (subst (λ (e : Whole). IsIndexOf e.kept index) same is))
]

-- one way more
pub brought-more : (joint : Joint) (vars : List VarId) (i : ℕ) (way : Way) (count more : ℕ) → i < length joint.ways → way ≡ get_or joint.ways i way
    → count ≡ capped (sum_by (count_through joint vars) (take i joint.ways)) → more ≡ capped (brought_together (engine_at joint (get_or joint.ways i way)).kept way vars)
    → capped (count + more) ≡ capped (sum_by (count_through joint vars) (take (i + 1) joint.ways))
brought-more joint vars i way count more within is before brought =
    let next = sum_by_push (count_through joint vars) (take i joint.ways) (get_or joint.ways i way) in
    let taken = ap (sum_by (count_through joint vars)) (take_more joint.ways i way within) in
    let same : brought_together (engine_at joint (get_or joint.ways i way)).kept way vars ≡ count_through joint vars (get_or joint.ways i way) =
    ap (λ (w : Way). brought_together (engine_at joint (get_or joint.ways i way)).kept w vars) is
    in
    omega (arith, next, taken, same, before, brought)
