-- The network that a memo is of.
use Rattle.sheet.specs.Nets.{Net}
use Rattle.sheet.specs.Views.{net}
use Rattle.stage_memo.specs.declared.memos.StageMemo.{StageMemo}

abbrev pub memo_net : StageMemo → Net
memo_net m = net m.sheet.now
