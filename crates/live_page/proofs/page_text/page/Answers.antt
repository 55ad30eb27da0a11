-- The value is that of the entries and the sets, and its line is the page.
use Rattle.live_page.proofs.Pages.{shown_line}
use Rattle.std.proofs.Common.{◌∙◌, ap, map}
use Rattle.serde_json.specs.View.{view}
use Rattle.live_page.specs.Page.{entry_data}
use Rattle.live_page.proofs.page_text.page.Goals as goal

pub returns : goal.returns
returns c =
    shown_line c.args.db.now c.in_ok-crates.crates.items c.in_ok-sets.sets.items (view c.in_ok-value.value) c.line_of.result
    c.in_ok-value.ensures (c.in_ok-crates.ensures ∙ ap (map entry_data) c.in_ok-crate_entries.ensures) c.in_ok-sets.ensures
    c.line_of.ensures
