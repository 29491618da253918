-- `print::files::read_file` meets its contract: where the open fails, one byte more than the limit is handed on.
use Rattle.std.proofs.Common.{◌≡◌, ◌+◌, ◌∙◌, arith}
use Rattle.print.specs.File.{size_read}
use Rattle.print.proofs.FileLaws.{prefix_len_of_le}
use Rattle.print.proofs.files.read_file.Goals as goal

pub returns-in-Err : goal.returns-in-Err
unfolding size_read
returns-in-Err g c =
    let longer : c.unwrap_or.result ≡ c.args.limit + 1 = c.unwrap_or.ensures ∙ c.file_size.ensures (c.args.limit + 1) in
    prefix_len_of_le c.unwrap_or.result c.args.to.now (omega (arith, longer, c.requires))
