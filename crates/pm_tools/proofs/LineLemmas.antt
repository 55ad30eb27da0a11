-- Lines of progress while the messages of a build are read, one message after another.
use Rattle.std.proofs.Common.{◌≡◌, ◌∙◌, ℕ, Bool, true, false, List, [], ◌∷◌, ◌++◌, Option, Some, Ok, Err, ap, append_assoc, append-nil, cond, refl, sym}
use Rattle.std.specs.Prelude.{IsErrOf}
use Rattle.cargo_msgs.specs.Messages.{message_of}
use Rattle.cargo_msgs.specs.declared.artifact.Artifact.{Artifact}
use Rattle.cargo_msgs.specs.declared.messages.Message.{Message}
use Rattle.base_text_outside.specs.declared.command.Output.{Output}
use Rattle.base_text.specs.Progress.{TakesFront-more, TakesFront-whole, with_lines, with_lines-next, with_lines-none}
use Rattle.pm_cargo_fetch.specs.Lines.{TakesLines}
use Rattle.pm_cargo_fetch.proofs.Lines.{TakesLines-after, TakesLines-same, TakesLines-stopped}
use Rattle.pm_cargo_packages.specs.declared.package.PackageData.{PackageData}
use Rattle.std.specs.Str.Lines.{lines}
use Rattle.pm_tools.specs.Lines.{artifact_lines, gains_library, library_line, lines_among, lines_from, message_lines, name_at}
use Rattle.pm_tools.specs.Outputs.{BuildState, Outputs, start_state, take_output_line}
use Rattle.base_values.specs.Outcome.{◌>>=◌, take_each}
use Rattle.pm_tools.specs.Reading.{Reading, Refuses}
use Rattle.pm_tools.specs.declared.build_error.BuildError.{BuildError}
use Rattle.pm_tools.specs.declared.build_error.BuildError.TheVariants.{Io, NotAbsolute, OutOfMemory}

-- ---- the lines of one message

module _ (packages : List PackageData) (outputs : Outputs) (a : Artifact) (place : ℕ) where
  -- the artifact gives the package its library
  pub gained : gains_library outputs a place ≡ true → library_line (name_at packages place) ∷ [] ≡ artifact_lines packages outputs a (Some place)
  gained is = ap (λ (b : Bool). cond b (library_line (name_at packages place) ∷ []) []) (sym is)

  -- it does not
  pub not_gained : gains_library outputs a place ≡ false → [] ≡ artifact_lines packages outputs a (Some place)
  not_gained is = ap (λ (b : Bool). cond b (library_line (name_at packages place) ∷ []) []) (sym is)

-- ---- the lines of one message after another

-- what refuses a reading is its error, unless memory ran out
refused_is : {T A : Type 0} (e : BuildError) (reading : Reading A) → ¬ IsErrOf {T = T} (Err e) OutOfMemory → Refuses e reading → reading ≡ Err e
refused_is (Io line) reading unless h = h
refused_is (NotAbsolute text) reading unless h = h
refused_is OutOfMemory reading unless h = absurd (unless refl)

module _ (packages : List PackageData) where
  -- no message is left
  none_left : (r : Reading BuildState) → lines_from packages r [] ≡ []
  unfolding lines_from
  none_left (Ok s) = refl
  none_left (Err e) = refl

  -- a refusal gives no lines
  refused_lines : (e : BuildError) (rest : List (List ℕ)) → lines_from packages (Err e) rest ≡ []
  unfolding lines_from
  refused_lines e [] = refl
  refused_lines e (x ∷ rest) = refl

  -- the lines of what is read first, and then of what follows
  lines_from-append : (first s : BuildState) (xs ys : List (List ℕ)) → take_each (take_output_line packages) first xs ≡ Ok s
      → lines_from packages (Ok first) (xs ++ ys) ≡ lines_from packages (Ok first) xs ++ lines_from packages (Ok s) ys
  unfolding lines_from take_each
  lines_from-append first s [] ys is = ap (λ (r : Reading BuildState). lines_from packages r ys) is
  lines_from-append first s (x ∷ xs) ys is = by (message_lines packages first.outputs (message_of x)) (take_output_line packages first x) is (λ next. lines_from-append next s xs ys)
    where
      by : (here : List (List ℕ)) (r : Reading BuildState) → (r >>= λ next. take_each (take_output_line packages) next xs) ≡ Ok s
          → ((next : BuildState) → take_each (take_output_line packages) next xs ≡ Ok s → lines_from packages (Ok next) (xs ++ ys) ≡ lines_from packages (Ok next) xs ++ lines_from packages (Ok s) ys)
          → here ++ lines_from packages r (xs ++ ys) ≡ (here ++ lines_from packages r xs) ++ lines_from packages (Ok s) ys
      by here (Ok next) e rest = ap (λ (l : List (List ℕ)). here ++ l) (rest next e) ∙ sym (append_assoc here (lines_from packages (Ok next) xs) (lines_from packages (Ok s) ys))
      by here (Err e) h rest = cc

  -- the lines of one message more
  lines_from-more : (first s : BuildState) (xs : List (List ℕ)) (x : List ℕ) → take_each (take_output_line packages) first xs ≡ Ok s
      → lines_from packages (Ok first) (xs ++ x ∷ []) ≡ lines_from packages (Ok first) xs ++ message_lines packages s.outputs (message_of x)
  unfolding lines_from
  lines_from-more first s xs x is =
      let here : List (List ℕ) = message_lines packages s.outputs (message_of x) in
      lines_from-append first s xs (x ∷ []) is
      ∙ ap (λ (l : List (List ℕ)). lines_from packages (Ok first) xs ++ (here ++ l)) (none_left (take_output_line packages s x))
      ∙ ap (λ (l : List (List ℕ)). lines_from packages (Ok first) xs ++ l) (append-nil here)

  -- no message has been read
  pub lines_begun : (first : BuildState) (old : Option (List (List ℕ))) → old ≡ with_lines (lines_from packages (Ok first) []) old
  lines_begun first old = sym (with_lines-none old) ∙ ap (λ (ls : List (List ℕ)). with_lines ls old) (sym (none_left (Ok first)))

  -- the lines of one message more came
  pub lines_came : (first s : BuildState) (xs : List (List ℕ)) (x : List ℕ) (m : Message) (old between new : Option (List (List ℕ))) → take_each (take_output_line packages) first xs ≡ Ok s
      → m ≡ message_of x → between ≡ with_lines (lines_from packages (Ok first) xs) old → new ≡ with_lines (message_lines packages s.outputs m) between
      → new ≡ with_lines (lines_from packages (Ok first) (xs ++ x ∷ [])) old
  lines_came first s xs x m old between new is reads so_far here =
      here
      ∙ ap (λ (n : Message). with_lines (message_lines packages s.outputs n) between) reads
      ∙ ap (with_lines (message_lines packages s.outputs (message_of x))) so_far
      ∙ with_lines-next old (lines_from packages (Ok first) xs) (message_lines packages s.outputs (message_of x))
      ∙ ap (λ (ls : List (List ℕ)). with_lines ls old) (sym (lines_from-more first s xs x is))

  -- the next line was not made a message: the call gave up
  pub lines_cut : {gave_up : Type 0} (first s : BuildState) (all xs rest : List (List ℕ)) (old new : Option (List (List ℕ))) → take_each (take_output_line packages) first xs ≡ Ok s → xs ++ rest ≡ all
      → new ≡ with_lines (lines_from packages (Ok first) xs) old → gave_up → TakesLines gave_up old new (lines_from packages (Ok first) all)
  lines_cut first s all xs rest old new is split so_far stopped =
      let before : List (List ℕ) = lines_from packages (Ok first) xs in
      let behind : List (List ℕ) = lines_from packages (Ok s) rest in
      TakesLines-same (TakesLines-stopped stopped (TakesFront-more old new before behind (TakesFront-whole old new before so_far)))
      (sym (lines_from-append first s xs rest is) ∙ ap (λ (ls : List (List ℕ)). lines_from packages (Ok first) ls) split)

  -- a message was refused, or the call gave up while it took it
  pub lines_stopped : {T : Type 0} (e : BuildError) (first s : BuildState) (all xs rest : List (List ℕ)) (x : List ℕ) (m : Message) (old between new : Option (List (List ℕ)))
      → take_each (take_output_line packages) first xs ≡ Ok s → m ≡ message_of x → xs ++ x ∷ rest ≡ all → between ≡ with_lines (lines_from packages (Ok first) xs) old
      → Refuses e (take_output_line packages s x) → TakesLines (IsErrOf {T = T} (Err e) OutOfMemory) between new (message_lines packages s.outputs m)
      → TakesLines (IsErrOf {T = T} (Err e) OutOfMemory) old new (lines_from packages (Ok first) all)
  unfolding lines_from
  lines_stopped {T} e first s all xs rest x m old between new is reads split so_far refused taken =
      let here : List (List ℕ) = message_lines packages s.outputs (message_of x) in
      let behind : List (List ℕ) = lines_from packages (take_output_line packages s x) rest in
      let now : TakesLines (IsErrOf {T = T} (Err e) OutOfMemory) between new here = TakesLines-same taken (ap (λ (n : Message). message_lines packages s.outputs n) reads) in
      let next : TakesLines (IsErrOf {T = T} (Err e) OutOfMemory) between new (here ++ behind) = record {
        all = λ no. now.all no ∙ ap (λ (ls : List (List ℕ)). with_lines ls between)
            (sym (append-nil here) ∙ ap (λ (l : List (List ℕ)). here ++ l)
            (sym (ap (λ (r : Reading BuildState). lines_from packages r rest) (refused_is {T = T} e (take_output_line packages s x) no refused) ∙ refused_lines e rest)));
        front = TakesFront-more between new here behind now.front;
      } in
      TakesLines-same (TakesLines-after (lines_from packages (Ok first) xs) so_far next)
      (sym (lines_from-append first s xs (x ∷ rest) is) ∙ ap (λ (ls : List (List ℕ)). lines_from packages (Ok first) ls) split)

-- the lines of a text that is the standard output, from a state that is the first
pub lines_are : (packages : List PackageData) (s : BuildState) (output : Output) (text : List ℕ) → s ≡ start_state packages → text ≡ output.out
    → lines_from packages (Ok s) (lines text) ≡ lines_among packages output
lines_are packages s output text start is = (λ i. lines_from packages (Ok (start i)) (lines (is i)))
