-- What is merged at a point tells of it what its samples tell.
use Rattle.std.specs.Prelude.{◌≡◌, ◌&&◌, ◌<◌, ℕ, Bool, true, false, All, List, [], ◌∷◌, filter, if◌then◌else◌, length, map, refl, slice_get, Some}
use Rattle.std.specs.List.{AllZip}
use Rattle.std.proofs.Common.{◌∙◌, ap, get_or, sym, subst}
use Rattle.std.proofs.lemmas.List.Elements.{All-contains_itself, All-head, All-tail}
use Rattle.dk_base.specs.declared.kinds.VarId.{VarId}
use Rattle.dk_base.specs.declared.kinds.VarInfo.{VarInfo}
use Rattle.dk_base.specs.declared.values.Value.{Value}
use Rattle.dk_classes.proofs.OfKind.{kind_read}
use Rattle.dk_classes.specs.Classes.{kind_at, var_kinds}
use Rattle.dk_engine.specs.Reading.Levels.{Whole}
use Rattle.dk_filters.proofs.Agreeing.{agrees_is_agreement}
use Rattle.dk_filters.proofs.Asked.{admitted-there, facts_are_of_what_may_be_asked, few-vars}
use Rattle.dk_filters.specs.Answers.{Answers, Parent}
use Rattle.dk_filters.specs.Candidates.{candidate_of, candidates_of, it_holds}
use Rattle.dk_filters.specs.Facts.{info_at, no_info}
use Rattle.dk_filters.specs.Laws.{ShowTheSame, TellTheSame}
use Rattle.dk_filters.specs.OfSamples.{agrees, answers_of}
use Rattle.dk_hierarchy.specs.Merging.{Joint, merged_agree}
use Rattle.dk_hierarchy.specs.Samples.{OwnSamples, own_samples_of, samples_of}
use Rattle.dk_hierarchy.specs.Standing.{AreEnginesOf, EnginesStandFor, IsMergedAt, JointStandsFor}
use Rattle.dk_instances.proofs.Listing.{instances_listed}
use Rattle.dk_instances.specs.Instances.{IsInstance, are_distinct, instances_of}
use Rattle.dk_points.specs.Table.{Point}
use Rattle.dk_template.specs.Admitted.{admits, is_written}
use Rattle.dk_template.specs.Fitting.{fits}
use Rattle.dk_template.specs.declared.grammar.Grammar.{Grammar}
use Rattle.dk_template.specs.declared.grammar.RowId.{RowId}
use Rattle.std.proofs.lemmas.Bool.{and_parts}
use Rattle.dk_report.specs.Asked.{answers_of_joint}
use Rattle.dk_report.specs.Reports.{answers_of_point}

-- two tests that hold at the same times are one
same-tests : (b c : Bool) → (b ≡ true → c ≡ true) → (c ≡ true → b ≡ true) → b ≡ c
same-tests true c to from = sym (to refl)
same-tests false true to from = from refl
same-tests false false to from = refl

kinds-read : (infos : List VarInfo) (v : VarId) → v.0 < length infos → kind_at (var_kinds infos) v.0 ≡ (info_at infos v).kind
kinds-read infos v within = kind_read infos v.0 no_info within

-- ---- what stands for samples
module _ (joint : Joint) (samples : List (List Value)) (stands : JointStandsFor joint samples) where
  agreeing-of : (v w : VarId) → v.0 < length joint.here.infos → w.0 < length joint.here.infos → merged_agree joint v w ≡ agrees joint.here.infos samples v w
  agreeing-of v w first second =
      let says = stands.agree v w first second in
      let told = agrees_is_agreement joint.here.infos samples v w in
      let at-v = kinds-read joint.here.infos v first in
      let at-w = kinds-read joint.here.infos w second in
      same-tests (merged_agree joint v w) (agrees joint.here.infos samples v w)
      (λ h. told.1 (sym at-v ∙ ((says.0 h).0 ∙ at-w), (says.0 h).1))
      (λ h. says.1 (at-v ∙ ((told.0 h).0 ∙ sym at-w), (told.0 h).1))

  pub tells_of : TellTheSame joint.here.grammar (answers_of_joint joint) (answers_of joint.here.infos samples)
  tells_of = record {
    infos = refl;
    answered = λ row of vars admitted. stands.state row of vars admitted;
    counted = λ vars few there. stands.count vars there;
    agreeing = agreeing-of;
  }

-- ---- at a point
module _ (ps : List Point) (engines : List Whole) (are : AreEnginesOf ps engines) (own : OwnSamples) (stand : EnginesStandFor engines (own_samples_of ps own))
    (p : ℕ) (joint : Joint) (here : slice_get engines p ≡ Some joint.here) (merged : IsMergedAt ps engines p joint)
  where
    pub tells : TellTheSame joint.here.grammar (answers_of_joint joint) (answers_of_point ps own p)
    tells =
        subst (λ infos. TellTheSame joint.here.grammar (answers_of_joint joint) (answers_of infos (samples_of ps own p))) (are.variables p joint.here here).0
        (tells_of joint (samples_of ps own p) (merged own stand))

-- ---- the same candidates
module _ {A B : Type 0} (Q : A → Type 0) (f g : A → B) (p q : A → Bool) (tests : (x : A) → Q x → p x ≡ q x) (values : (x : A) → Q x → f x ≡ g x) where
  more-alike : (x : A) (xs : List A) (b : Bool) → f x ≡ g x → map f (filter p xs) ≡ map g (filter q xs)
      → map f (if b then x ∷ filter p xs else filter p xs) ≡ map g (if b then x ∷ filter q xs else filter q xs)
  more-alike x xs true e rest = ap (λ ys. f x ∷ ys) rest ∙ ap (λ y. y ∷ map g (filter q xs)) e
  more-alike x xs false e rest = rest

  made-alike : (xs : List A) → All Q xs → map f (filter p xs) ≡ map g (filter q xs)
  made-alike [] all = refl
  made-alike (x ∷ xs) all =
      more-alike x xs (p x) (values x (All-head Q x xs all)) (made-alike xs (All-tail Q x xs all))
      ∙ ap (λ b. map g (if b then x ∷ filter q xs else filter q xs)) (tests x (All-head Q x xs all))

module _ (grammar : Grammar) (a b : Answers) (tell : TellTheSame grammar a b) (ps qs : List Parent) (show : AllZip (ShowTheSame grammar a.infos) ps qs) where
  abbrev IsOne : RowId × List VarId → Type 0
  IsOne i = IsInstance grammar a.infos i.0 i.1

  ones : All IsOne (instances_of grammar a.infos)
  ones k d lt = (instances_listed grammar a.infos (get_or (instances_of grammar a.infos) k d).0 (get_or (instances_of grammar a.infos) k d).1).0 (All-contains_itself (instances_of grammar a.infos) k d lt)

  admitted : (i : RowId × List VarId) → IsOne i → admits i.0 a.infos i.1 ≡ true
  admitted i one = (and_parts (admits i.0 a.infos i.1) (is_written i.0 i.1 && are_distinct i.1) one.asked).0

  same-candidate : (least : ℕ) (i : RowId × List VarId) → IsOne i → candidate_of least a ps i ≡ candidate_of least b qs i
  same-candidate least i one =
      let ok = admitted i one in
      let state = tell.answered i.0 one.of_grammar i.1 ok in
      let count = tell.counted i.1 (few-vars a.infos i.0 i.1 ok) (admitted-there a.infos i.0 i.1 ok) in
      let facts = facts_are_of_what_may_be_asked grammar a b tell ps qs show least i.0 one.of_grammar i.1 ok in
      λ k. record { row = i.0; vars = i.1; state = state k; count = count k; facts = facts k }

  pub same-candidates : (least : ℕ) → candidates_of grammar least a ps ≡ candidates_of grammar least b qs
  unfolding candidates_of
  same-candidates least =
      made-alike IsOne (candidate_of least a ps) (candidate_of least b qs) (it_holds a) (it_holds b)
      (λ i one. ap fits (tell.answered i.0 one.of_grammar i.1 (admitted i one))) (same-candidate least) (instances_of grammar a.infos) ones
      ∙ ap (λ infos. map (candidate_of least b qs) (filter (it_holds b) (instances_of grammar infos))) tell.infos
