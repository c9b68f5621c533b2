use Rattle.std.proofs.Common.{subst, []}
use Rattle.dk_base.specs.Values.{values_of}
use Rattle.dk_constants.specs.Constants.{AreFed}
use Rattle.dk_constants.specs.Known.{EntriesAscend}
use Rattle.dk_constants.proofs.Determined.{fed_same}
use Rattle.dk_constants.proofs.Feeding.{constants_fed, ended_fed}
use Rattle.dk_constants.proofs.constants.Constants.feed.Goals as goal

pub returns-clause-stands : goal.returns-clause-stands
returns-clause-stands c =
    let sample = values_of c.args.sample.now in
    let new = c.args.new.now in
    let fed = subst (λ ks. AreFed ks new sample c.in_ok-known.known.items c.in_ok-known.ended) c.self.view_is c.in_ok-known.ensures in
    λ leaders now samples some are lead. (
      constants_fed leaders new samples sample now c.args.self c.in_ok-known.known.items c.in_ok-known.ended are lead fed some,
      ended_fed leaders new samples sample now c.args.self c.in_ok-known.known.items c.in_ok-known.ended are lead fed,
    )

pub returns-clause-same : goal.returns-clause-same
returns-clause-same c none over =
    let sample = values_of c.args.sample.now in
    let fed = subst (λ ks. AreFed ks c.args.new.now sample c.in_ok-known.known.items c.in_ok-known.ended) c.self.view_is c.in_ok-known.ensures in
    let quiet = subst (λ n. AreFed c.args.self n sample c.in_ok-known.known.items c.in_ok-known.ended) none fed in
    fed_same c.args.self sample c.in_ok-known.known.items (subst EntriesAscend c.self.view_is c.self.invariant) (subst (AreFed c.args.self [] sample c.in_ok-known.known.items) over quiet)
