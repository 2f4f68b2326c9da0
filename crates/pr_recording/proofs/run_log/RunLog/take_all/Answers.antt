use Rattle.pr_recording.proofs.RunLogging.{follows_all}
use Rattle.pr_recording.proofs.run_log.RunLog.take_all.Goals as goal

pub returns : goal.returns
returns c = follows_all c.args.self.now _ c.in_ok-_len._len c.args.edges.now c.in_ok-_len.ensures.read c.in_ok-_len.ensures.back
