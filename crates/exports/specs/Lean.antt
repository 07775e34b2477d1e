-- What a lean call hands back, with a session beside it: what the call itself hands back.
use Rattle.rules.specs.declared.Session.{Session}
use Rattle.exports.specs.declared.KhLooked.{KhLooked}
use Rattle.exports.specs.declared.KhNewest.{KhNewest}
use Rattle.exports.specs.declared.KhAny.{KhAny}
use Rattle.exports.specs.declared.KhListed.{KhListed}
use Rattle.exports.specs.declared.KhWritten.{KhWritten}
use Rattle.exports.specs.declared.lean.KhLeanLooked.{KhLeanLooked}
use Rattle.exports.specs.declared.lean.KhLeanNewest.{KhLeanNewest}
use Rattle.exports.specs.declared.lean.KhLeanAny.{KhLeanAny}
use Rattle.exports.specs.declared.lean.KhLeanListed.{KhLeanListed}
use Rattle.exports.specs.declared.lean.KhLeanWritten.{KhLeanWritten}

abbrev pub looked : Session → KhLeanLooked → KhLooked
looked s r = record { answer = r.answer; «record» = r.«record»; mended = r.mended; reason = r.reason; session = s }

abbrev pub newest : Session → KhLeanNewest → KhNewest
newest s r = record {
  answer = r.answer;
  issue = r.issue;
  «record» = r.«record»;
  mended = r.mended;
  reason = r.reason;
  session = s;
}

abbrev pub any : Session → KhLeanAny → KhAny
any s r = record { answer = r.answer; any = r.any; mended = r.mended; reason = r.reason; session = s }

abbrev pub listed : Session → KhLeanListed → KhListed
listed s r = record { answer = r.answer; count = r.count; mended = r.mended; reason = r.reason; session = s }

abbrev pub written : Session → KhLeanWritten → KhWritten
written s r = record { answer = r.answer; length = r.length; mended = r.mended; reason = r.reason; session = s }
