use Rattle.dk_trace.specs.BodiesResumed.{body_resumed}
use Rattle.dk_trace.proofs.bodies.BodyReader.line.Goals as goal

pub returns-in-Err-nonce_line : goal.returns-in-Err-nonce_line
unfolding body_resumed
returns-in-Err-nonce_line c = rw c.in-AtNonce.is (c.in-Err-nonce_line.ensures c.args.vars.now)
