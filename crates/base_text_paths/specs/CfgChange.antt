-- What a change of the conditional compilation holds.
use Rattle.std.specs.Prelude.{List}
use Rattle.base_text_outside.specs.declared.cfg.CfgAtom.{CfgAtom}

-- the atoms that go in and those that go out, each in order
pub record CfgChange : Type 0 where
  pub enabled : List CfgAtom
  pub disabled : List CfgAtom
