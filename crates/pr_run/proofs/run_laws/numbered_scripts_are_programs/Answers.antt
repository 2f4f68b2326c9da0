use Rattle.pr_run.proofs.ScriptTextLemmas.{scripts_run, texts_say}
use Rattle.pr_run.proofs.run_laws.numbered_scripts_are_programs.Goals as goal

pub returns-clause-same : goal.returns-clause-same
returns-clause-same c = texts_say c.lexemes_are_found.ensures.no_others

pub returns-clause-runs : goal.returns-clause-runs
returns-clause-runs c = scripts_run c.lexemes_are_found.ensures.no_others
