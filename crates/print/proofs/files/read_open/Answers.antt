-- `print::files::read_open` meets its contract: there is a size only after the read that found the end.
use Rattle.print.proofs.FileLaws.{size_within, whole_read}
use Rattle.print.proofs.files.read_open.Goals as goal

pub returns-clause-within : goal.returns-clause-within
returns-clause-within g c = size_within _ _ _ _ c.file_size.ensures c.read_full-size.ensures.within

pub returns-clause-whole : goal.returns-clause-whole
returns-clause-whole g c = whole_read _ _ _ _ _ _ c.file_size.ensures c.read_full-size.ensures.bytes c.read_behind.ensures.ended
