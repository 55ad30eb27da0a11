-- What questions are asked with, as plain data.
use Rattle.std.specs.Prelude.{ℕ, List}
use Rattle.base_text_outside.specs.declared.command.Output.{Output}
use Rattle.base_text_outside.specs.declared.command.Question.{Question}
use Rattle.base_text.specs.Tools.{Variables}
use Rattle.base_text.specs.declared.tool.Tools.{Tools}
use Rattle.base_text.specs.Tree.{TreeFiles}
use Rattle.pm_tools_ask.specs.declared.ask.Ask.{Ask}

-- the recorded answers, the files of the tree, the names of the tools, the variables of the process, and
-- those set or removed beside them
pub record Means : Type 0 where
  pub answers : List (Question × Output)
  pub files : TreeFiles
  pub tools : Tools
  pub process_env : List (List ℕ × List ℕ)
  pub extra_env : Variables

-- what an `Ask` stands for, by what its runner answers and its tree holds
abbrev pub means_of : {R T : Type 0} → (R → List (Question × Output)) → (T → TreeFiles) → Ask R T → Means
means_of answers files ask = record {
  answers = answers ask.runner.now;
  files = files ask.tree.now;
  tools = ask.tools.now;
  process_env = ask.process_env.now;
  extra_env = ask.extra_env.now;
}
