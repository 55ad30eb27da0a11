use Rattle.std.proofs.Common.{rules}
use Rattle.base_text_outside.specs.Command.{question_of}
use Rattle.base_text_outside.proofs.Questions.{later_answer}
use Rattle.base_text_outside.proofs.runner.RecordedRunner.insert.Goals as goal

pub returns-clause-last_counts : goal.returns-clause-last_counts
returns-clause-last_counts c asked =
    later_answer _ _ _ c.args.line _ c.args.output _ asked c.into_question-question.ensures (search (rules, c.new-2.ensures, c.in_ok-output.ensures.ok)) c.self.view_is
    (c.in_ok-insert.ensures.updates.0 (question_of asked))
