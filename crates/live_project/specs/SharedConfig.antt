-- A configuration beside a copy of it that several holders share.
use Rattle.std.specs.Prelude.{◌≡◌, Option, Some, None}
use Rattle.live_config.specs.declared.config.LiveConfig.{LiveConfig}

-- a copy, where there is one, equals its original
abbrev pub IsCopy : LiveConfig → Option LiveConfig → Type 0
IsCopy config None = Unit {0}
IsCopy config (Some copy) = copy ≡ config
