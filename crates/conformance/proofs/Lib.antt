mod TextClasses
