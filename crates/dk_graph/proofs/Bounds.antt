-- What is kept at the start.
use Rattle.std.proofs.Common.{[], refl, arith}
use Rattle.dk_graph.specs.Graphs.{edges, links, edges_from, edges_into}
use Rattle.dk_graph.specs.Kept.{IsJoined, HasRanks}
use Rattle.dk_graph.proofs.Turns.{Contains-nil}

pub joined-nothing : IsJoined [] [] [] [] []
unfolding links edges edges_from edges_into
joined-nothing = record {
  named = refl;
  from_all = refl;
  from_are = λ p. refl;
  into_all = refl;
  into_are = λ p. refl;
  waits = λ name none. refl;
  few = omega arith;
}

pub ranks-nothing : HasRanks [] []
unfolding links edges
ranks-nothing = record {
  all = refl;
  risen = record {
    climbs = λ e there. absurd (Contains-nil e there);
    reached = λ q. omega arith;
    low = λ q within. absurd (omega (arith, within));
  };
}
