-- Freed tuples by rising rank.
use Rattle.std.specs.Prelude.{◌≡◌, ◌<◌, ℕ, suc, All, List, ◌++◌, nat_lt, refl}
use Rattle.std.proofs.Common.{arith, inl, inr, subst}
use Rattle.std.proofs.lemmas.Bool.{cases_lt, ltb-true}
use Rattle.std.proofs.lemmas.List.Elements.{All-contains, Contains-append_cases, Contains-append_left}
use Rattle.dk_base.specs.declared.kinds.VarId.{VarId}
use Rattle.dk_base.specs.declared.kinds.VarInfo.{VarInfo}
use Rattle.dk_suppress.specs.Laws.{AllPremises}
use Rattle.dk_suppress.specs.Rules.{rules}
use Rattle.dk_template.specs.Premises.{row_of}
use Rattle.dk_template.specs.Templates.{rank_of, rows}
use Rattle.dk_template.specs.declared.grammar.Grammar.{Grammar}
use Rattle.dk_template.specs.declared.grammar.RowId.{RowId}
use Rattle.dk_engine.proofs.PremiseSlots.{passes, rank_below}
use Rattle.dk_engine.specs.Reading.{rank_bound}
use Rattle.dk_engine.specs.Feeding.Step.{Answer, IsFreed, slot_vars}
use Rattle.dk_engine.specs.declared.feed.now.Now.{Now}
use Rattle.dk_engine.specs.StepLaws.{FreedByRank, FreedTuplesComeByRank}
use Rattle.dk_engine.specs.declared.slots.slot.Slot.{Slot}

few_ranks : AllPremises (λ r p. nat_lt (rank_of r.0) rank_bound)
unfolding rules rows
few_ranks = refl

module _ (grammar : Grammar) (infos : List VarInfo) (before after : Answer) (slots : List Slot) (now : Now) where
  abbrev Freed : List (RowId × List VarId) → RowId → List VarId → Type 0
  Freed candidates row vars = IsFreed grammar infos before after slots now candidates row vars

  -- a tuple that more candidates free is freed by the fewer, where the others are of no lower rank
  freed_by_fewer : (n : ℕ) (candidates added : List (RowId × List VarId)) → All (λ (c : RowId × List VarId). rank_of c.0 ≡ n) added → (row : RowId) (vars : List VarId) → rank_of row < suc n
      → Freed (candidates ++ added) row vars → Freed candidates row vars
  freed_by_fewer n candidates added ranked row vars low freed =
      let p = freed.premise in
      record {
        placed = freed.placed;
        untouched = freed.untouched;
        was = freed.was;
        isnt = freed.isnt;
        counts = freed.counts;
        premise = p;
        of_row = freed.of_row;
        lost = freed.lost;
        reached = elim freed.reached [
          | inl found ↦ inl found
          | inr has ↦ elim (Contains-append_cases candidates added (row_of p, slot_vars p vars) has) [
            | inl old ↦ inr old
            | inr new ↦
                let same = All-contains (λ (c : RowId × List VarId). rank_of c.0 ≡ n) added (row_of p, slot_vars p vars) ranked new in
                let below = rank_below row p freed.of_row in
                absurd (omega (arith, same, below, low))
          ]
        ];
      }

  by_rank : FreedByRank grammar infos before after slots now
  by_rank = record {
    none = λ candidates row vars low freed. let below = rank_below row freed.premise freed.of_row in absurd (omega (arith, below, low));
    more = λ n candidates added lower ranked here row vars low freed.
        let fewer = freed_by_fewer n candidates added ranked row vars low freed in
        elim (cases_lt (rank_of row) n) [
          | inl less ↦ Contains-append_left candidates added (row, vars) (lower row vars less fewer)
          | inr least ↦ here row vars (omega (arith, least, low)) fewer
        ];
    all = λ candidates lower row vars freed.
        let of = freed.of_row in
        let few = ltb-true (rank_of of.rule.0) rank_bound (passes (λ r p. nat_lt (rank_of r.0) rank_bound) few_ranks row freed.premise of) in
        lower row vars (subst (λ (r : RowId). rank_of r < rank_bound) of.concludes few) freed;
  }

pub freed_by_rank : FreedTuplesComeByRank
freed_by_rank = by_rank
