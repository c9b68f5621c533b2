use Rattle.std.proofs.Common.{◌≡◌, ◌≤◌, length, refl, arith, ap}
use Rattle.std.proofs.lemmas.Option.{slice_get_past}
use Rattle.dk_points.specs.Partners.{partner_of}
use Rattle.dk_points.specs.Vars.{vars_of}
use Rattle.dk_derive.proofs.partners.base_partner.Goals as goal

pub returns-else-w-vars-clause-partner : goal.returns-else-w-vars-clause-partner
unfolding partner_of
returns-else-w-vars-clause-partner c =
    let vars = vars_of c.args.points.now c.args.edge.parent.0 in
    let same : length c.vars.result.now ≡ length vars = ap length c.vars.ensures.vars in
    let past : length vars ≤ c.args.w.0 = omega arith in
    rw (slice_get_past vars c.args.w.0 past) refl
