-- The report of what states say together, and their state behind it.
use Rattle.std.proofs.Common.{◌≡◌, ◌≤◌, ℕ, List, [], take, length, inl, inr, refl, sym, ◌∙◌, ap, subst, arith}
use Rattle.std.specs.Io.{StartsWith}
use Rattle.dk_blocks.specs.History.{History}
use Rattle.dk_core.proofs.Resuming.{loaded_as}
use Rattle.dk_core.specs.Resuming.{IsOfLoaded, IsStart, state_file}
use Rattle.dk_decl.specs.Headers.{is_implicit}
use Rattle.dk_events.specs.declared.ended.Ended.{Ended}
use Rattle.dk_events.specs.declared.ended.Ended.TheVariants as ended
use Rattle.dk_events.specs.declared.ended.Ended.TheVariants.{Done, Refused, Usage, Read, Write, NoMemory}
use Rattle.dk_io.specs.Outside.{Rose}
use Rattle.dk_io.specs.Streams.{Texts, with_bytes}
use Rattle.dk_io.specs.declared.outside.Stream.TheVariants.{Report, State}
use Rattle.dk_merging.specs.Loading.{IsLoadOf}
use Rattle.dk_program.proofs.Saying.{followed_only}
use Rattle.dk_program.proofs.Writing.{front_all, front_take}
use Rattle.dk_program.specs.Ending.{EndsWith}
use Rattle.dk_program.specs.Outputs.{Output, texts_followed_by}
use Rattle.dk_run.specs.Loaded.{IsFrontOfLoaded, ReportsLoaded}
use Rattle.dk_run.specs.Reports.{last_report, whole_report}
use Rattle.dk_run.specs.Telling.{Added}
use Rattle.dk_state.specs.declared.loading.Loaded.{Loaded}
use Rattle.dk_merge.proofs.Ending.{ends_early, followed_state, only_report}
use Rattle.dk_merge.specs.Outputs.{IsStateFront, IsStateOutput, no_output, plain_command}
use Rattle.dk_merge.specs.Running.{IsReportFront, IsReportOf, ReportEnds, StateEnds}

-- the output that is a report alone
abbrev reported : List ℕ → Output
reported text = record { report = text; messages = []; state = [] }

module _ (least : ℕ) (state : List ℕ) (l : Loaded) (is : IsLoadOf state l) (old new : Texts) (before after : ℕ) where
  -- the history of which it is the state file
  of_history : (h : History) → IsStart h → state_file h ≡ state → IsOfLoaded l h
  of_history h start same =
      loaded_as h state (IsOfLoaded l h) same
      (λ file. let of = is.stands h.grammar h.table (is_implicit h.header) h.samples start.saved file in
      record { start = start; grammar = of.grammar; table = of.points; word = of.word; stand = of.stand })

  -- it has no line in front of its report
  alone : (h : History) → last_report (plain_command least) 0 h ≡ whole_report (plain_command least) h
  alone h = refl

  cut : Added old new Report (IsFrontOfLoaded (plain_command least) l) → (front : Output) × IsReportFront least state front × (new ≡ texts_followed_by old front)
  cut told = (
    reported told.text,
    record { messages = refl; state = refl; report = λ h start same. subst (λ (r : List ℕ). StartsWith r told.text) (alone h) (told.holds h (of_history h start same)) },
    told.written ∙ followed_only old Report told.text,
  )

  pub report_ends : (status : Ended) → ReportsLoaded (plain_command least) l old new before after status → ReportEnds least state old new before after status
  report_ends Done (told, calm) =
      inl (
        refl,
        (reported told.text, record { messages = refl; state = refl; report = λ h start same. told.holds h (of_history h start same) ∙ alone h }, told.written ∙ followed_only old Report told.text),
        calm,
      )
  report_ends Refused told = absurd told
  report_ends Usage told = absurd told
  report_ends Read told = absurd told
  report_ends Write (told, rose) = inr (inl (refl, rose), cut told)
  report_ends NoMemory (told, calm) = inr (inr (refl, calm), cut told)

-- ---- the state behind the report
nothing_of_state : (least : ℕ) (state : List ℕ) → IsStateFront least state no_output
nothing_of_state least state = record { messages = refl; state = refl; report = λ h start is. record { report = refl; messages = refl; state = refl; in_order = inr refl } }

-- a part of the state behind the whole report
state_front : (least : ℕ) (state : List ℕ) (output : Output) (n : ℕ) → n ≤ length state → IsReportOf least state output → IsStateFront least state (record { report = output.report; messages = []; state = take n state })
state_front least state output n few is = record {
  messages = refl;
  state = front_take n state few;
  report = λ h start same. record {
    report = subst (λ (l : List ℕ). StartsWith l output.report) (is.report h start same) (front_all output.report);
    messages = refl;
    state = front_take n state few;
    in_order = inl (is.report h start same);
  };
}

written_behind : (old mid new : Texts) (output : Output) (text : List ℕ) → output.messages ≡ [] → output.state ≡ [] → mid ≡ texts_followed_by old output → new ≡ with_bytes mid State text
    → new ≡ texts_followed_by old (record { report = output.report; messages = []; state = text })
written_behind old mid new output text m s between e =
    e ∙ ap (λ (t : Texts). with_bytes t State text) (between ∙ ap (texts_followed_by old) (only_report output m s)) ∙ followed_state old output.report text

output_behind : (least : ℕ) (state : List ℕ) (output : Output) → IsReportOf least state output → IsStateOutput least state (record { report = output.report; messages = []; state = state })
output_behind least state output is = record {
  messages = refl;
  state = refl;
  report = λ h start same. ap (λ (r : List ℕ). record { report = r; messages = []; state = state }) (is.report h start same);
}

pub state_ends : (least : ℕ) (state : List ℕ) (old mid new : Texts) (a b c : ℕ) (result : Ended) (output : Output) → IsReportOf least state output → mid ≡ texts_followed_by old output → b ≡ a
    → EndsWith ended.Done State state mid new b c result → StateEnds least state old new a c result
state_ends least state old mid new a b c result output is between calm (inl (ends, e, quiet)) =
    inl (
      ends,
      (record { report = output.report; messages = []; state = state }, output_behind least state output is, written_behind old mid new output state is.messages is.state between e),
      quiet ∙ calm,
    )
state_ends least state old mid new a b c result output is between calm (inr (inl (ends, rose, (n, few, e)))) =
    inr (
      inl (ends, subst (λ (k : ℕ). Rose k c) calm rose),
      (record { report = output.report; messages = []; state = take n state }, state_front least state output n few is, written_behind old mid new output (take n state) is.messages is.state between e),
    )
state_ends least state old mid new a b c result output is between calm (inr (inr (ends, e, quiet))) =
    inr (
      inr (ends, quiet ∙ calm),
      (record { report = output.report; messages = []; state = [] }, state_front least state output 0 (omega arith) is, e ∙ between ∙ ap (texts_followed_by old) (only_report output is.messages is.state)),
    )

-- the report of a run that is done
pub report_done : (least : ℕ) (state : List ℕ) (old new : Texts) (a c : ℕ) (result : Ended) → result ≡ ended.Done → ReportEnds least state old new a c result
    → ((output : Output) × IsReportOf least state output × (new ≡ texts_followed_by old output)) × (c ≡ a)
report_done least state old new a c result is (inl (done, told, quiet)) = (told, quiet)
report_done least state old new a c result is (inr (inl (write, rose), rest)) = absurd (cc (is, write))
report_done least state old new a c result is (inr (inr (memory, quiet), rest)) = absurd (cc (is, memory))

pub state_early : (least : ℕ) (state : List ℕ) (old : Texts) (faults : ℕ) → StateEnds least state old old faults faults ended.NoMemory
state_early least state old faults = ends_early ended.Done (IsStateOutput least state) (IsStateFront least state) old faults (nothing_of_state least state)
