use Rattle.std.proofs.Common.{ap, Err}
use Rattle.dk_state.specs.declared.loading.LoadFault.{LoadFault}
use Rattle.dk_merging.proofs.MergedStates.{bad_bytes}
use Rattle.dk_merging.proofs.merging.load_or.Goals as goal

pub returns-in-Ok-clause-loaded : goal.returns-in-Ok-clause-loaded
returns-in-Ok-clause-loaded c =
    let own = c.in-Ok.ensures in
    record {
      spelling = own.spelling;
      says = record { table = own.table; of_table = own.engines.0; of_grammar = own.engines.1; saved = own.saved; text = own.saves };
      loaded = own.loaded;
      stands = λ g ps implicit samples can text.
          let of = own.stands g ps implicit samples can text in
          record { grammar = of.0; points = of.1; word = of.2; stand = of.3 };
    }

pub returns-in-Err-BadState-clause-bad : goal.returns-in-Err-BadState-clause-bad
returns-in-Err-BadState-clause-bad c =
    bad_bytes c.args.bytes.now c.args.bad (c.in-Err-BadState.ensures.bad (ap (λ (e : LoadFault). Err e) c.in-Err-BadState.field-0-is))
