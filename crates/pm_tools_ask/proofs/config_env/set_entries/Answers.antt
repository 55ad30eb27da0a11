use Rattle.std.proofs.Common.{◌≡◌, ◌∷◌, [], Some, None, option_copied, string_bytes, ap, refl, rules}
use Rattle.toml.specs.View.{members_view, view}
use Rattle.pm_tools_ask.specs.Statements.{origin_root}
use Rattle.pm_tools_ask.specs.Ask.{means_of}
use Rattle.pm_tools_ask.specs.ConfigEnv.{relative_keys, variable_value, with_variable}
use Rattle.pm_tools_ask.proofs.ConfigEnv.{all_entries, entry_root, take_entry}
use Rattle.pm_tools_ask.proofs.config_env.set_entries.Goals as goal

pub loop-name-preserved-in_ok-set : goal.loop-name-preserved-in_ok-set
loop-name-preserved-in_ok-set g c =
    let name = string_bytes c.in-Some.name.now in
    let entry = view c.in-Some.entry.now in
    let means = means_of g.R.Runner.answers g.T.Tree.files c.args.ask.now in
    let first : c.loop-name.name-iterator ≡ (c.in-Some.name.now, c.in-Some.entry.now) ∷ c.next.new.self = search rules in
    let root : option_copied c.root_of-root.result ≡ origin_root c.args.text.now (relative_keys name) None =
    entry_root c.args.text.now name c.in_ok-roots.roots (option_copied c.root_of-root.result) c.in_ok-roots.ensures (search rules) in
    let value : Some (string_bytes c.in-Some-2.value) ≡ variable_value means name entry (option_copied c.root_of-root.result) = search rules in
    let after : c.set.new.self ≡ with_variable name (Some (string_bytes c.in-Some-2.value)) c.loop-name.env = search rules in
    take_entry c.args.text.now means c.loop-name.env c.set.new.self _ name entry (option_copied c.root_of-root.result) (Some (string_bytes c.in-Some-2.value))
    (members_view c.loop-name.name-iterator) (members_view c.next.new.self)
    (ap members_view first) root value after c.loop-name.invariant

pub loop-name-preserved : goal.loop-name-preserved
loop-name-preserved g c =
    let name = string_bytes c.in-Some.name.now in
    let entry = view c.in-Some.entry.now in
    let means = means_of g.R.Runner.answers g.T.Tree.files c.args.ask.now in
    let first : c.loop-name.name-iterator ≡ (c.in-Some.name.now, c.in-Some.entry.now) ∷ c.next.new.self = search rules in
    let root : option_copied c.root_of-root.result ≡ origin_root c.args.text.now (relative_keys name) None =
    entry_root c.args.text.now name c.in_ok-roots.roots (option_copied c.root_of-root.result) c.in_ok-roots.ensures (search rules) in
    let value : None ≡ variable_value means name entry (option_copied c.root_of-root.result) = search rules in
    take_entry c.args.text.now means c.loop-name.env c.loop-name.env _ name entry (option_copied c.root_of-root.result) None
    (members_view c.loop-name.name-iterator) (members_view c.next.new.self)
    (ap members_view first) root value refl c.loop-name.invariant

pub returns : goal.returns
returns g c =
    let means = means_of g.R.Runner.answers g.T.Tree.files c.args.ask.now in
    let none : c.loop-name.name-iterator ≡ [] = search rules in
    let done = all_entries c.args.text.now means c.loop-name.env _ _ (ap members_view none) c.loop-name.invariant in
    search rules
