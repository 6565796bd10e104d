-- `building::has_kind` meets its contract: the newest version has every kind, under another it is the node's tag that is asked for. Assumes
-- nothing.
use mathlib.Core.Path.{sym, ap, ◌∙◌}
use Rattle.definition.specs.Settings.{known}
use Rattle.building.proofs.Versions.{newest-known}
use Rattle.building.proofs.has_kind.Goals as goal

pub returns-then-version-ge-NEWEST : goal.returns-then-version-ge-NEWEST
returns-then-version-ge-NEWEST c = sym (newest-known c.args.version _ c.if-version-ge-NEWEST.true)

pub returns : goal.returns
returns c = c.is_known.ensures ∙ ap (known _) c.node_tag.ensures
