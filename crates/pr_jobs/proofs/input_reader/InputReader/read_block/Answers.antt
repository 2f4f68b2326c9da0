use Rattle.std.proofs.Common.{◌≡◌, ◌-◌, ◌≤◌, arith, rules, refl, take, length, length-take}
use Rattle.pr_jobs.specs.declared.input_reader.InputReader.{InputReader}
use Rattle.pr_jobs.proofs.InputLemmas.{reads_end, reads_more}
use Rattle.pr_jobs.proofs.input_reader.InputReader.read_block.Goals as goal

pub returns-in-Ok-eq0-clause-read : goal.returns-in-Ok-eq0-clause-read
returns-in-Ok-eq0-clause-read g c =
    let new : InputReader = record { edges = c.clear.new.self; left = c.args.self.now.left } in
    reads_end (g.R.Read.remaining c.args.input.now.inner) (g.R.Read.remaining c.read.new.self.inner) c.args.self.now new _ _ (search rules) c.in-Ok-eq0.ensures.bytes.0 refl c.clear.ensures.known

pub returns-in_ok-take_block-in-Ok-clause-read : goal.returns-in_ok-take_block-in-Ok-clause-read
returns-in_ok-take_block-in-Ok-clause-read g c =
    let new : InputReader = record { edges = c.take_block.new.self; left = c.args.self.now.left - c.in-Ok.n } in
    let block = take c.in-Ok.n c.read.new.buf in
    let within : c.in-Ok.n ≤ length c.read.new.buf = search (rules, c.in-Ok.ensures.bound) in
    let count : length block ≡ c.in-Ok.n = omega (arith, length-take c.in-Ok.n c.read.new.buf) in
    reads_more (g.R.Read.remaining c.args.input.now.inner) (g.R.Read.remaining c.read.new.self.inner) c.args.self.now new c.in-Ok.n block c.in-Ok.ensures.bytes.0 count c.if-n-self.false refl c.in_ok-take_block-in-Ok.ensures.known
