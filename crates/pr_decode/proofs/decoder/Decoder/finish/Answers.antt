use Rattle.pr_decode.proofs.Taken.{all-settled, frame-left, glitch-left, none-left}
use Rattle.pr_decode.proofs.decoder.Decoder.finish.Goals as goal

pub returns-in_err-transfer-clause-read : goal.returns-in_err-transfer-clause-read
returns-in_err-transfer-clause-read c = λ edges given h.
    none-left edges given c.args.self c.from_residual.result h c.in_err-transfer.was c.from_residual.ensures

pub returns-in_err-transfer-clause-settled : goal.returns-in_err-transfer-clause-settled
returns-in_err-transfer-clause-settled c = λ edges given h. all-settled edges given c.args.self h

pub returns-then-transfer-eq8-clause-read : goal.returns-then-transfer-eq8-clause-read
returns-then-transfer-eq8-clause-read c = λ edges given h.
    frame-left edges given c.args.self c.in_ok-transfer.transfer h c.in_ok-transfer.was c.if-transfer-eq8.true

pub returns-then-transfer-eq8-clause-settled : goal.returns-then-transfer-eq8-clause-settled
returns-then-transfer-eq8-clause-settled c = λ edges given h. all-settled edges given c.args.self h

pub returns-else-transfer-eq8-clause-read : goal.returns-else-transfer-eq8-clause-read
returns-else-transfer-eq8-clause-read c = λ edges given h.
    glitch-left edges given c.args.self c.in_ok-transfer.transfer h c.in_ok-transfer.was c.if-transfer-eq8.false

pub returns-else-transfer-eq8-clause-settled : goal.returns-else-transfer-eq8-clause-settled
returns-else-transfer-eq8-clause-settled c = λ edges given h. all-settled edges given c.args.self h
