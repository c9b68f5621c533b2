use Rattle.std.proofs.Common.{◌≡◌, ◌≢◌, ◌<◌, ◌+◌, ◌∙◌, ap, arith, length, slice_get, slice_set, subst, sym, List, Some}
use Rattle.std.specs.Prelude.{IfSome, Option}
use Rattle.std.proofs.lemmas.Bool.{false≢true}
use Rattle.dk_claims.specs.declared.claims.Claim.{Claim}
use Rattle.dk_verdicts.proofs.Rereading.{AreRereadTo, all_reread, one_kept, one_read, still_of}
use Rattle.dk_verdicts.proofs.Tested.{got_value}
use Rattle.dk_verdicts.specs.Reading.{AreListed}
use Rattle.dk_verdicts.specs.Standing.{AreFindingsOf}
use Rattle.dk_verdicts.specs.declared.findings.Finding.{Finding}
use Rattle.dk_verdicts.specs.declared.findings.Finding.TheVariants.{Unknown}
use Rattle.dk_verdicts.specs.declared.reading.Listed.{Listed}
use Rattle.dk_verdicts.proofs.reading.read_claims.Goals as goal
use Rattle.dk_verdicts.proofs.reading.read_claims.Goals.{then-is_unknown+in_ok-finding, else-is_unknown}

pub loop-place-preserved : goal.loop-place-preserved
loop-place-preserved c =
    let ps = c.args.points.now in
    let claims = c.args.claims.now in
    let n = c.loop-place.place in
    let old = c.args.findings.now.items in
    let mid : List Finding = c.loop-place.findings.items in
    let inv = c.loop-place.invariant in
    let claim : Claim = c.index-claims-place.result in
    let f : Finding = c.index.result.now in
    let at : slice_get claims n ≡ Some claim = got_value claims n claim (omega arith) c.index-claims-place.is in
    let within : n < length mid = let long = inv.reread.long in let all = c.requires.long in omega (arith, long, all, c.loop-place-test.true) in
    let here : slice_get mid n ≡ Some f = got_value mid n f within c.index.ensures in
    elim c.if-is_unknown.branch [
      | then-is_unknown+in_ok-finding w ↦
          let g : Finding = w.in_ok-finding.finding in
          let items : c.if-is_unknown.findings.items ≡ slice_set mid n g = ap (λ v. v.items) w.findings-is ∙ w.put.ensures in
          let nothing : f ≡ Unknown = c.is_unknown.ensures.0 w.if-is_unknown.true in
          record {
            reread = subst (AreRereadTo (n + 1) c.args.known ps claims old) (sym items)
                (one_read n c.args.known ps claims old mid inv.reread claim g at (here ∙ ap Some nothing) w.in_ok-finding.ensures.found);
            are_of = subst (AreFindingsOf ps) (sym items) (still_of ps mid n g inv.are_of w.in_ok-finding.ensures.is_of);
            last = subst (λ (o : Option Listed). IfSome o (AreListed ps)) (sym w.last-is) w.in_ok-finding.ensures.last;
          }
      | else-is_unknown w ↦
          let items : c.if-is_unknown.findings.items ≡ mid = ap (λ v. v.items) w.findings-is in
          let some : f ≢ Unknown = λ e. false≢true (sym w.if-is_unknown.false ∙ c.is_unknown.ensures.1 e) in
          record {
            reread = subst (AreRereadTo (n + 1) c.args.known ps claims old) (sym items) (one_kept n c.args.known ps claims old mid inv.reread f here some);
            are_of = subst (AreFindingsOf ps) (sym items) inv.are_of;
            last = subst (λ (o : Option Listed). IfSome o (AreListed ps)) (sym w.last-is) inv.last;
          }
    ]

pub returns-clause-reread : goal.returns-clause-reread
returns-clause-reread c =
    let ends : c.loop-place.place ≡ length c.args.claims.now = omega arith in
    all_reread c.loop-place.place c.args.known c.args.points.now c.args.claims.now c.args.findings.now.items c.loop-place.findings.items c.loop-place.invariant.reread ends
