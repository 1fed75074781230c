use Rattle.xti_base.specs.Options.{word_bytes}
use Rattle.xti_opt.proofs.InBytes.{header_written}
use Rattle.xti_opt.proofs.requests.write_header.Goals as goal

pub returns-clause-bytes : goal.returns-clause-bytes
returns-clause-bytes c =
    header_written c.args.room.now.bytes (word_bytes c.args.length) (word_bytes c.args.level) (word_bytes c.args.name) (word_bytes c.args.status)
    c.write_word.new.room.bytes c.write_word-2.new.room.bytes c.write_word-3.new.room.bytes c.write_word-4.new.room.bytes
    c.write_word.ensures.bytes c.write_word-2.ensures.bytes c.write_word-3.ensures.bytes c.write_word-4.ensures.bytes
