use Rattle.std.proofs.Common.{◌≡◌, true, false, All, arith, subst, sym}
use Rattle.std.proofs.lemmas.List.Elements.{All-push}
use Rattle.dk_state.proofs.Going.{all_read, one_read}
use Rattle.dk_state.proofs.entries.read_all.Goals as goal

pub entries-preserved : goal.entries-preserved
entries-preserved g c =
    let vars = c.args.vars.now in
    let entry = g.T.Entry in
    let comes : entry.begins c.entries.front ≡ true = cc in
    record {
      read = λ xs rest all ended last is.
          one_read entry.text_of (entry.fits vars) entry.begins entry.follows (g.met.T.Entry.first vars) (g.met.T.Entry.follow vars) xs rest c.entries.all c.push.new.self
          c.entries.front c.read.new.front c.in_ok-entry.entry all ended last comes c.in_ok-entry.ensures.read
          c.in_ok-push.ensures.ok (c.entries.invariant.read xs rest all ended last is);
      within = subst (All entry.within) (sym c.in_ok-push.ensures.ok) (All-push entry.within c.entries.all c.in_ok-entry.entry c.entries.invariant.within c.in_ok-entry.ensures.within);
      shorter = omega (arith, c.in_ok-entry.ensures.shorter, c.entries.invariant.shorter);
    }

pub returns-clause-read : goal.returns-clause-read
returns-clause-read g c xs rest all ended last is =
    let vars = c.args.vars.now in
    let entry = g.T.Entry in
    let ended_here : entry.begins c.entries.front ≡ false = cc in
    all_read entry.text_of (entry.fits vars) entry.begins entry.follows (g.met.T.Entry.first vars) (g.met.T.Entry.follow vars) xs rest c.entries.all c.entries.front all
    ended_here (c.entries.invariant.read xs rest all ended last is)
