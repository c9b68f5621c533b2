-- Several variables are present together in at most as many samples as one of them.
use Rattle.std.specs.Prelude.{◌≡◌, ◌≤◌, ◌*◌, ℕ, true, List, [], ◌∷◌, if◌then◌else◌, refl, sum_by, Option, Some, None, option_and_then, option_map}
use Rattle.std.specs.Option.{option_map_or}
use Rattle.std.proofs.Common.{◌∙◌, ap, arith, inl, inr, subst, sym}
use Rattle.std.proofs.lemmas.Bool.{and_from, and_parts, cases_Bool}
use Rattle.std.proofs.Math.Nat.{mul-le-mul_right}
use Rattle.std.proofs.lemmas.List.Sums.{sum_by-le-sum_by}
use Rattle.dk_base.specs.declared.kinds.VarId.{VarId}
use Rattle.dk_engine.specs.Reading.{count_read}
use Rattle.dk_engine.specs.Reading.Parts.{leader_of, leaders_of}
use Rattle.dk_engine.specs.declared.kept.Kept.{Kept}
use Rattle.dk_filters.specs.Answers.{Answers}
use Rattle.dk_forms.specs.Laws.{IsIn}
use Rattle.dk_hierarchy.specs.Edges.{partner_at, partners_at}
use Rattle.dk_hierarchy.specs.Merging.{Joint, count_through, engine_at, merged_count}
use Rattle.dk_hierarchy.specs.declared.way.Way.{Way}
use Rattle.dk_instances.proofs.Members.{in_map}
use Rattle.dk_presence.specs.Patterns.{capped, counted_by, has, has_all}
use Rattle.dk_presence.specs.declared.held.Held.{Held}

-- what answers counts no more samples for several variables than for one of them
abbrev pub CountsFall : Answers → Type 0
CountsFall here = (vars : List VarId) (v : VarId) → IsIn v vars → here.counted vars ≤ here.counted (v ∷ [])

capped-up : (m n : ℕ) → m ≤ n → capped m ≤ capped n
capped-up m n l = omega (arith, l)

-- ---- by the patterns
has-one : (present : List VarId) (v : VarId) (vars : List VarId) → IsIn v vars → has_all present vars ≡ true → has_all present (v ∷ []) ≡ true
has-one present v [] i h = absurd i
has-one present v (w ∷ vars) (inl e) h =
    and_from (has present v) true (ap (has present) e ∙ (and_parts (has present w) (has_all present vars) h).0) refl
has-one present v (w ∷ vars) (inr i) h = has-one present v vars i (and_parts (has present w) (has_all present vars) h).1

counted-falls : (held : List Held) (v : VarId) (vars : List VarId) → IsIn v vars → counted_by held vars ≤ counted_by held (v ∷ [])
counted-falls held v vars i =
    let together : Held → ℕ = λ h. if has_all h.leaders vars then h.count else 0 in
    let alone : Held → ℕ = λ h. if has_all h.leaders (v ∷ []) then h.count else 0 in
    let each : (h : Held) → together h ≤ alone h = λ h.
    elim (cases_Bool (has_all h.leaders vars)) as (λ _. together h ≤ alone h) [
      | inl all ↦
          (let here : together h ≡ h.count = ap (λ b. if b then h.count else 0) all in
          let there : alone h ≡ h.count = ap (λ b. if b then h.count else 0) (has-one h.leaders v vars i all) in
          omega (arith, here, there))
      | inr some ↦ (let here : together h ≡ 0 = ap (λ b. if b then h.count else 0) some in omega (arith, here))
    ] in
    capped-up (sum_by together held) (sum_by alone held) (sum_by-le-sum_by together alone held each)

read-falls : (kept : Kept) (v : VarId) (vars : List VarId) → IsIn v vars → count_read kept vars ≤ count_read kept (v ∷ [])
read-falls kept v vars i = counted-falls kept.held (leader_of kept.leaders v) (leaders_of kept.leaders vars) (in_map (leader_of kept.leaders) v vars i)

-- ---- through the ways
-- where all have partners, each has one among them
partner-among : (partners : List (Option VarId)) (v : VarId) (vars there : List VarId) → IsIn v vars → partners_at partners vars ≡ Some there
    → (w : VarId) × IsIn w there × (partners_at partners (v ∷ []) ≡ Some (w ∷ []))
partner-among partners v [] there i e = absurd i
partner-among partners v (u ∷ vars) there i e =
    by (partner_at partners u) (partners_at partners vars) refl refl e i (λ others among q. partner-among partners v vars others among q)
  where
    by : (o : Option VarId) (rest : Option (List VarId)) → partner_at partners u ≡ o → partners_at partners vars ≡ rest
        → option_and_then (λ w. option_map (λ more. w ∷ more) rest) o ≡ Some there → IsIn v (u ∷ vars)
        → ((others : List VarId) → IsIn v vars → partners_at partners vars ≡ Some others → (w : VarId) × IsIn w others × (partners_at partners (v ∷ []) ≡ Some (w ∷ [])))
        → (w : VarId) × IsIn w there × (partners_at partners (v ∷ []) ≡ Some (w ∷ []))
    by None rest p q e i behind = absurd (cc)
    by (Some w) None p q e i behind = absurd (cc)
    by (Some w) (Some others) p q e (inl same) behind =
        let are : w ∷ others ≡ there = cc in
        let one : Option VarId → Option (List VarId) = option_and_then (λ y. Some (y ∷ [])) in
        (w, subst (IsIn w) are (inl refl), ap (λ x. one (partner_at partners x)) same ∙ ap one p)
    by (Some w) (Some others) p q e (inr among) behind =
        let are : w ∷ others ≡ there = cc in
        let found = behind others among q in
        (found.0, subst (IsIn found.0) are (inr found.1), found.2)

through-falls : (kept : Kept) (partners : List (Option VarId)) (v : VarId) (vars : List VarId) → IsIn v vars
    → option_map_or (count_read kept) (partners_at partners vars) 0 ≤ option_map_or (count_read kept) (partners_at partners (v ∷ [])) 0
through-falls kept partners v vars i = by (partners_at partners vars) refl
  where
    by : (o : Option (List VarId)) → partners_at partners vars ≡ o → option_map_or (count_read kept) o 0 ≤ option_map_or (count_read kept) (partners_at partners (v ∷ [])) 0
    by None e = omega arith
    by (Some there) e =
        let among = partner-among partners v vars there i e in
        subst (λ o. count_read kept there ≤ option_map_or (count_read kept) o 0) (sym among.2) (read-falls kept among.0 there among.1)

times-up : (m n k : ℕ) → m ≤ n → m * k ≤ n * k
times-up m n k l = mul-le-mul_right k l

pub merged-falls : (joint : Joint) (vars : List VarId) (v : VarId) → IsIn v vars → merged_count joint vars ≤ merged_count joint (v ∷ [])
unfolding merged_count
merged-falls joint vars v i =
    capped-up (sum_by (count_through joint vars) joint.ways) (sum_by (count_through joint (v ∷ [])) joint.ways)
    (sum_by-le-sum_by (count_through joint vars) (count_through joint (v ∷ [])) joint.ways
    (λ (way : Way).
    times-up (option_map_or (count_read (engine_at joint way).kept) (partners_at way.partners vars) 0)
    (option_map_or (count_read (engine_at joint way).kept) (partners_at way.partners (v ∷ [])) 0) way.paths
    (through-falls (engine_at joint way).kept way.partners v vars i)))
