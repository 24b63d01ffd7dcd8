mod OneBadLine
mod SecondReport
