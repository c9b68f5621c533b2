use Rattle.std.proofs.Common.{◌∙◌, ◌≡◌, IfSome, Option, ap, subst, sym, ℕ}
use Rattle.dk_bitmaps.specs.Bitmaps.{told}
use Rattle.dk_engine.specs.Reading.{count_read}
use Rattle.dk_presence.specs.Patterns.{capped}
use Rattle.dk_report.proofs.Indexes.{brought-there, none-brought, told-read}
use Rattle.dk_report.proofs.counting.indexed_through.Goals as goal

pub returns-in-None : goal.returns-in-None
returns-in-None c = λ kept is. none-brought kept c.args.way.now c.args.vars.now (sym c.partners_at.ensures ∙ c.in-None.is)

pub returns-in-Some : goal.returns-in-Some
returns-in-Some c = λ kept is.
    let way = c.args.way.now in
    let vars = c.args.vars.now in
    let there = c.in-Some.there in
    let index = c.args.index.now in
    let partners = sym c.partners_at.ensures ∙ c.in-Some.is in
    let counted : c.count.result ≡ told index there = c.count.ensures ∙ ap (told index) c.as_slice.ensures.items in
    let read = subst (λ (o : Option ℕ). IfSome o (λ n. n ≡ count_read kept there)) (sym counted) (told-read kept index there is) in
    subst (λ n. IfSome c.times.result (λ count. count ≡ capped n)) (brought-there kept way vars there partners) (c.times.ensures (count_read kept there) read)
