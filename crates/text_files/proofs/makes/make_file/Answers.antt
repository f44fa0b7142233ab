use Rattle.std.proofs.Common.{rules}
use Rattle.sheet.specs.Views.{net}
use Rattle.sheet.proofs.Fronts.{kept_by_sheet}
use Rattle.text_files.proofs.Room.{room_for_all}
use Rattle.text_files.proofs.makes.make_file.Goals as goal

pub unwrap-requires : goal.unwrap-requires
unwrap-requires c =
    let s = c.in_ok-sheet.sheet in
    room_for_all (net s) (kept_by_sheet s) c.args.buffer.now c.write.new.buffer (search rules) c.write.result c.write.ensures
