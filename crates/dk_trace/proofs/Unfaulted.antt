-- A record that is still read has no fault.
use Rattle.std.proofs.Common.{ℕ, ℤ, List, [], ◌∷◌, drop, Bool, true, false, Option, None, Result, Ok, Err, IsOk, refl, if◌then◌else◌}
use Rattle.dk_base.specs.Reading.{LineFault}
use Rattle.dk_base.specs.Values.{values_of as shown_by}
use Rattle.dk_base.specs.declared.values.Value.{Value}
use Rattle.dk_decl.specs.declared.decls.VarDecl.{VarDecl}
use Rattle.dk_trace.specs.Bodies.{Body, body_of, body_with}
use Rattle.dk_trace.specs.BodiesResumed.{body_resumed}
use Rattle.dk_trace.specs.OpenRecords.{NoFaultYet}
use Rattle.dk_trace.specs.Records.{sample_with, var_decls_at}
use Rattle.dk_trace.specs.RecordsResumed.{record_resumed}
use Rattle.dk_trace.specs.Values.{from_name, known_values, record_values, then_values}
use Rattle.dk_trace.specs.ValuesResumed.{from_value_line, values_resumed}
use Rattle.dk_trace.specs.declared.bodies.BodyReader.{BodyReader}
use Rattle.dk_trace.specs.declared.bodies.BodyReader.TheVariants.{AtStart, AtNonce, AtValues}
use Rattle.dk_trace.specs.declared.values.ValueLine.{ValueLine}
use Rattle.dk_trace.specs.declared.values.ValueLine.TheVariants.{AtName, AtValue, AtMark}
use Rattle.dk_trace.specs.declared.values.ValueReader.{ValueReader}

then_ok : (xs : List Value) (read : Result (List Value) LineFault) → IsOk read → IsOk (then_values xs read)
then_ok xs (Ok ys) h = refl
then_ok xs (Err e) h = cc h

body_ok : (n : Option ℤ) (read : Result (List Value) LineFault) → IsOk read → IsOk (body_with n read)
body_ok n (Ok ys) h = refl
body_ok n (Err e) h = cc h

values_ok : (vs : List VarDecl) → IsOk (record_values vs [] None)
values_ok [] = refl
values_ok (v ∷ vs) = by v.constant_line (values_ok vs)
  where
    by : (b : Bool) → IsOk (record_values vs [] None) → IsOk (if b then then_values (known_values v.constant) (record_values vs [] None) else from_name v (record_values vs) [] None)
    by true h = then_ok (known_values v.constant) (record_values vs [] None) h
    by false h = refl

place_ok : (vs : List VarDecl) (p : ValueLine) → IsOk (from_value_line p vs [] None)
place_ok vs AtName = values_ok vs
place_ok vs (AtValue k) = refl
place_ok vs (AtMark u) = refl

reader_ok : (vs : List VarDecl) (r : ValueReader) → IsOk (values_resumed vs r [] None)
unfolding values_resumed
reader_ok vs r = then_ok (shown_by r.values.items) (from_value_line r.place (drop r.index vs) [] None) (place_ok (drop r.index vs) r.place)

bodies_ok : (vs : List VarDecl) (r : BodyReader) → IsOk (body_resumed vs r [] None)
unfolding body_resumed body_of
bodies_ok vs AtStart = body_ok None (record_values vs [] None) (values_ok vs)
bodies_ok vs AtNonce = refl
bodies_ok vs (AtValues n r) = body_ok n (values_resumed vs r [] None) (reader_ok vs r)

sample_ok : (p line : ℕ) (read : Result Body LineFault) → IsOk read → IsOk (sample_with p line read)
sample_ok p line (Ok b) h = refl
sample_ok p line (Err e) h = cc h

pub no_fault_yet : NoFaultYet
unfolding record_resumed
no_fault_yet ps r = sample_ok r.point.0 r.line (body_resumed (var_decls_at ps r.point.0) r.body [] None) (bodies_ok (var_decls_at ps r.point.0) r.body)
